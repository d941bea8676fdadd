use Rattle.std.proofs.Common.{rules, ◌≡◌, List, ℕ, Option, Some, refl, sym, ap, ◌∙◌, subst}
use Rattle.top_model.specs.Texts.{note_lines}
use Rattle.top_model.specs.declared.report.Cause.{Cause}
use Rattle.top_model.specs.declared.report.Cause.TheVariants.{OutOfMemory}
use Rattle.service_run.specs.Documents.{serve_cause}
use Rattle.service_run.specs.Steps.{ServedAs, went, starved, stopped}
use Rattle.service_run.proofs.service.serve_read.Goals as goal
use Rattle.service_run.proofs.service.serve_read.Goals.{in-Ok-serve_one, in-Err}

pub returns-in_default : goal.returns-in_default
returns-in_default g c =
    subst (λ (notes : List ℕ). ServedAs g.H.Host g.F.Folder c.args.doc.now c.args.name.now c.args.now c.args.host.now c.args.host.now c.args.folder.now c.args.folder.now notes (Some OutOfMemory))
    (sym c.new.ensures.items) (starved refl refl)

pub returns : goal.returns
returns g c =
    let noted : c.in-Ok.notes.items ≡ note_lines c.args.doc.now.notes = search rules in
    let served = λ (notes : List ℕ) (cause : Option Cause). ServedAs g.H.Host g.F.Folder c.args.doc.now c.args.name.now c.args.now c.args.host.now c.serve_one.new.host c.args.folder.now c.serve_one.new.folder notes cause in
    subst (λ (notes : List ℕ). served notes c.match-serve_one.cause) (sym noted)
    (elim c.match-serve_one.branch [
      | in-Ok-serve_one w ↦ subst (λ (cause : Option Cause). served (note_lines c.args.doc.now.notes) cause) (sym w.cause-is) (went w.in-Ok-serve_one.ensures)
      | in-Err w ↦
          let is : c.match-serve_one.cause ≡ Some (serve_cause w.in-Err.fault) = w.cause-is ∙ ap (λ (k : Cause). Some k) w.serve_cause.ensures in
          subst (λ (cause : Option Cause). served (note_lines c.args.doc.now.notes) cause) (sym is) (stopped w.in-Err.fault w.in-Err.ensures)
    ])
