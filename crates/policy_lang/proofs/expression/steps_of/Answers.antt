use Rattle.std.proofs.Common.{◌∙◌, ◌+◌, drop, ◌++◌, ◌∷◌, [], List, Option, None, option_map, sym, ap}
use Rattle.policy_model.specs.Keys.{Text}
use Rattle.policy_model.specs.Reading.{step_of, steps_of, and_step}
use Rattle.policy_model.specs.declared.Step.{Step}
use Rattle.policy_lang.proofs.lemmas.Walks.{passed, settles, all_passed}
use Rattle.policy_lang.proofs.Walks.{no_steps_yet, step_on, steps_end}
use Rattle.policy_lang.proofs.expression.steps_of.Goals as goal

pub loop-part-init : goal.loop-part-init
loop-part-init c = rw c.new-steps.ensures.items (no_steps_yet (steps_of c.args.parts.now))

pub loop-part-preserved : goal.loop-part-preserved
loop-part-preserved c =
    let behind : List Step → List Text → Option (List Step) = λ steps parts. option_map (λ rest. steps ++ rest) (steps_of parts) in
    let steps = c.loop-part.steps.items in
    ap (λ (ss : List Step). behind ss (drop (c.loop-part.part-index + 1) c.args.parts.now)) c.in_ok-push.ensures.items
    ∙ passed (behind steps) c.args.parts.now c.loop-part.part-index _ c.loop-part.invariant (behind (steps ++ c.in-Some.step ∷ [])) c.part-item.result c.loop-part-test.true c.part-item.is
    (λ parts. step_on steps c.in-Some.step (steps_of parts)
    ∙ ap (λ (found : Option Step). option_map (λ rest. steps ++ rest) (and_step found (steps_of parts))) (sym c.in-Some.is ∙ c.in_ok-step.ensures ∙ ap step_of (c.as_bytes.ensures.value ∙ c.as_str.ensures)))

pub returns-in_default : goal.returns-in_default
returns-in_default c =
    let behind : List Step → List Text → Option (List Step) = λ steps parts. option_map (λ rest. steps ++ rest) (steps_of parts) in
    let steps = c.loop-part.steps.items in
    settles (behind steps) c.args.parts.now c.loop-part.part-index _ c.loop-part.invariant None c.part-item.result c.loop-part-test.true c.part-item.is
    (λ parts. ap (λ (found : Option Step). option_map (λ rest. steps ++ rest) (and_step found (steps_of parts))) (sym c.in_default.is ∙ c.in_ok-step.ensures ∙ ap step_of (c.as_bytes.ensures.value ∙ c.as_str.ensures)))

pub returns : goal.returns
returns c =
    let steps = c.loop-part.steps.items in
    steps_end steps ∙ all_passed (λ parts. option_map (λ rest. steps ++ rest) (steps_of parts)) c.args.parts.now c.loop-part.part-index _ c.loop-part.invariant c.loop-part-test.false
