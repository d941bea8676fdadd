use Rattle.std.proofs.Common.{◌∙◌, List, Option, option_map, sym, ap}
use Rattle.std.specs.Prelude.{option_and_then}
use Rattle.doc_tree.specs.Shape.{Shape, shape}
use Rattle.policy_model.specs.Values.{steps_value}
use Rattle.policy_model.specs.declared.Step.{Step}
use Rattle.policy_values.specs.Tables.{found_in, seen}
use Rattle.policy_lang.proofs.lemmas.Walks.{passed, all_passed}
use Rattle.policy_values.proofs.values.steps_value.Goals as goal

pub loop-step-preserved : goal.loop-step-preserved
loop-step-preserved c =
    let made : Shape → List Step → Option Shape = λ s steps. steps_value (found_in c.args.captures.now (seen c.args.table.now)) steps s in
    passed (made (shape c.loop-step.made)) c.args.steps.now c.loop-step.step-index _ c.loop-step.invariant (made (shape c.in-Some.next)) c.step-item.result c.loop-step-test.true c.step-item.is
    (λ rest. ap (option_and_then (λ s. made s rest)) (sym (ap (option_map shape) c.in-Some.is) ∙ c.in_ok-next.ensures))

pub returns : goal.returns
returns c =
    all_passed (λ steps. steps_value (found_in c.args.captures.now (seen c.args.table.now)) steps (shape c.loop-step.made)) c.args.steps.now c.loop-step.step-index _ c.loop-step.invariant c.loop-step-test.false
