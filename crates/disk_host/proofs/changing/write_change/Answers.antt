use Rattle.std.proofs.Common.{◌∙◌, ℕ, length, sym, ap}
use Rattle.call_journal.specs.Area.{room_for}
use Rattle.disk_host.specs.Kept.{held_by}
use Rattle.disk_host.proofs.Changes.{record_size}
use Rattle.disk_host.proofs.Storing.{unwritten}
use Rattle.disk_host.proofs.changing.write_change.Goals as goal

pub append_kept-requires-clause-room : goal.append_kept-requires-clause-room
append_kept-requires-clause-room g c =
    ap (λ (n : ℕ). room_for (held_by c.args.kept) n) (sym (ap length (c.deref.ensures.value ∙ c.in-Ok.ensures.bytes) ∙ record_size c.args.call.now)) ∙ sym c.in-Some.ensures

pub fold-requires-clause-room : goal.fold-requires-clause-room
fold-requires-clause-room g c =
    ap (λ (n : ℕ). room_for (held_by c.args.kept) n) (sym (ap length (c.deref.ensures.value ∙ c.in-Ok.ensures.bytes) ∙ record_size c.args.call.now)) ∙ sym c.in-None.ensures

pub returns-in-Err : goal.returns-in-Err
returns-in-Err g c = unwritten g.D.Disk.tells c.args.call.now c.args.kept (g.D.Disk.told c.args.disk.now)
