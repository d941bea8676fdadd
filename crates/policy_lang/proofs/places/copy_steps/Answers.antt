use Rattle.std.proofs.Common.{◌∙◌}
use Rattle.std.proofs.lemmas.List.{take_all}
use Rattle.policy_lang.proofs.Walks.{copied_on}
use Rattle.policy_lang.proofs.places.copy_steps.Goals as goal

pub loop-step-preserved : goal.loop-step-preserved
loop-step-preserved c =
    copied_on c.deref-step-items.result.now c.loop-step.step-index c.loop-step.path.steps _ c.step-item.result c.in_ok-copy.field-0 c.loop-step.invariant c.loop-step-test.true c.step-item.is c.in_ok-copy.ensures c.in_ok-push.ensures.ok

pub returns : goal.returns
returns c = c.loop-step.invariant ∙ take_all c.loop-step.step-index c.deref-step-items.result.now c.loop-step-test.false ∙ c.deref-step-items.ensures.value ∙ c.items.ensures
