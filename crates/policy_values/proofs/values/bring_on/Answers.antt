use Rattle.std.proofs.Common.{ap, ◌∙◌}
use Rattle.doc_tree.specs.Shape.{shape}
use Rattle.policy_values.specs.Tables.{found_in, valued, seen}
use Rattle.policy_values.proofs.Advance.{step_done, step_waiting, step_brought}
use Rattle.policy_values.proofs.values.bring_on.Goals as goal
use Rattle.policy_values.proofs.values.bring_on.Goals.{then-done-i-via-then-done-i, then-done-i-via-else-done-i+then-not-ready-i}

pub returns-then-done-i-clause-step : goal.returns-then-done-i-clause-step
returns-then-done-i-clause-step c = elim c.then-done-i.branch [
  | then-done-i-via-then-done-i w ↦ step_done c.args.captures.now (shape c.args.running.now) c.args.done.now c.args.ready.now c.args.i c.requires.inside c.args.values.now.items w.if-done-i.true
  | then-done-i-via-else-done-i+then-not-ready-i w ↦ step_waiting c.args.captures.now (shape c.args.running.now) c.args.done.now c.args.ready.now c.args.i c.requires.inside c.args.values.now.items w.if-not-ready-i.true
]

pub returns-clause-step : goal.returns-clause-step
returns-clause-step c =
    step_brought c.args.captures.now (shape c.args.running.now) c.args.done.now c.args.ready.now c.args.i c.requires.inside c.args.values.now.items c.in_ok-value.value c.index-captures-i.result
    c.if-not-ready-i.false c.index-captures-i.is
    (c.in_ok-value.ensures ∙ ap (λ vs. valued (found_in c.args.captures.now (seen vs)) (shape c.args.running.now) c.index-captures-i.result) c.as_slice.ensures.value)
