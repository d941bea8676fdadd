use Rattle.std.proofs.Common.{◌∙◌, sym, ◌∷◌, []}
use Rattle.top_model.specs.Lines.{timed_of}
use Rattle.order_reading.proofs.Parts.{line_taken, step_pushed}
use Rattle.order_reading.proofs.script.push_step.Goals as goal

pub returns-in_ok-push-in-Some : goal.returns-in_ok-push-in-Some
returns-in_ok-push-in-Some c =
    let step = rw c.in-Some.is at c.in_ok-step.ensures in (
      timed_of c.in-Some.step ∷ [],
      line_taken c.args.line.now (timed_of c.in-Some.step) (sym c.is_skipped.ensures ∙ c.if-is_skipped.false) step,
      step_pushed c.args.steps.now.items c.push.new.self.items c.in-Some.step c.in_ok-push-in-Some.ensures.items,
    )
