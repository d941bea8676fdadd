use Rattle.std.proofs.Common.{rules, ◌≤◌, length, sym, subst, arith}
use Rattle.std.specs.Prelude.{Ok, Vec, ℕ}
use Rattle.std.specs.declared.alloc.Global.{Global}
use Rattle.top_model.specs.Orders.{read_limit}
use Rattle.service_run.specs.Reading.{ReadsFile, GoesOn}
use Rattle.service_run.proofs.Readings.{file_read, read_on}
use Rattle.service_run.proofs.reading.read_file.Goals as goal
use Rattle.service_run.proofs.reading.read_file.Goals.{else-loop-bytes-test, then-loop-bytes-test+in_ok-read_piece+then-not-branch}

pub returns : goal.returns
returns g c =
    let tells = g.F.Folder.tells in
    let name = c.args.name.now in
    let first = g.F.Folder.told c.args.folder.now in
    let old = g.F.Folder.told c.start.new.self in
    let begun : GoesOn tells first old = record { unmoved = c.in-Ok.ensures.unmoved; later = c.in-Ok.ensures.cause.later } in
    elim c.loop-bytes-test.branch [
      | else-loop-bytes-test w ↦
          let full : read_limit ≤ length c.loop-bytes.bytes.items = search rules in
          subst (λ (f : g.row.F.Denot). ReadsFile tells name first (g.F.Folder.told f) (Ok c.loop-bytes-test.bytes)) (sym w.folder-is)
          (subst (λ (b : Vec ℕ Global). ReadsFile tells name first (g.F.Folder.told c.loop-bytes.folder) (Ok b)) (sym w.bytes-is)
          (file_read tells name first old (g.F.Folder.told c.loop-bytes.folder) c.loop-bytes.bytes begun c.in-Ok.ensures.begins c.loop-bytes.invariant (λ short. absurd (omega (arith, full, short)))))
      | then-loop-bytes-test+in_ok-read_piece+then-not-branch w ↦
          let piece = w.in_ok-read_piece.ensures in
          subst (λ (f : g.row.F.Denot). ReadsFile tells name first (g.F.Folder.told f) (Ok c.loop-bytes-test.bytes)) (sym w.folder-is)
          (subst (λ (b : Vec ℕ Global). ReadsFile tells name first (g.F.Folder.told w.read_piece.new.folder) (Ok b)) (sym w.bytes-is)
          (file_read tells name first old (g.F.Folder.told w.read_piece.new.folder) w.read_piece.new.bytes begun c.in-Ok.ensures.begins
          (read_on tells old (g.F.Folder.told c.loop-bytes.folder) (g.F.Folder.told w.read_piece.new.folder) c.loop-bytes.bytes.items w.read_piece.new.bytes.items _ c.loop-bytes.invariant piece)
          (λ short. piece.outcome.at_end w.if-not-branch.true)))
    ]
