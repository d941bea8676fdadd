use Rattle.std.proofs.Common.{◌≡◌, ◌∙◌, ◌++◌, ℕ, List, take, length, sym, ap}
use Rattle.base_model.specs.PathText.{steps_text}
use Rattle.base_model.proofs.PathLemmas.{begun, on_err}
use Rattle.base_model.proofs.path.append_steps.Goals as goal

pub returns-in_err-append_step-clause-err : goal.returns-in_err-append_step-clause-err
returns-in_err-append_step-clause-err c =
    let old = c.args.out.now.items in
    let more = steps_text (take c.loop-step.step-index c.args.steps.now) in
    let now : c.loop-step.out.items ≡ old ++ more = c.loop-step.invariant in
    let kept = c.in_err-append_step.ensures.err in
    on_err c.from_residual.result _ (begun old more c.append_step.new.out.items (ap (λ (bs : List ℕ). take (length bs) c.append_step.new.out.items) (sym now) ∙ (kept ∙ now)))
