use Rattle.std.proofs.Common.{List, ℕ, Some, refl, sym, subst}
use Rattle.service_run.specs.Steps.{NamedAs, readable, unreadable}
use Rattle.service_run.proofs.service.serve_named.Goals as goal

pub returns-in-Ok : goal.returns-in-Ok
returns-in-Ok g c = readable c.in-Ok.doc c.read_document.new.folder c.serve_read.result.notes.items c.serve_read.result.cause c.in-Ok.ensures.right c.in-Ok.ensures.reads c.serve_read.ensures

pub returns-in-Err : goal.returns-in-Err
returns-in-Err g c =
    subst (λ (notes : List ℕ). NamedAs g.H.Host g.F.Folder c.args.name.now c.args.now c.args.host.now c.args.host.now c.args.folder.now c.read_document.new.folder notes (Some c.in-Err.cause))
    (sym c.new.ensures.items) (unreadable c.in-Err.cause refl c.in-Err.ensures.reads)
