use Rattle.std.proofs.Common.{◌≡◌, drop}
use Rattle.doc_tree.specs.Shape.{shape}
use Rattle.policy_model.specs.Values.{steps_value}
use Rattle.policy_values.specs.Tables.{found_in, seen}
use Rattle.policy_values.proofs.values.steps_value.Given as goal

abbrev pub invariant-loop-step : goal.invariant-loop-step
invariant-loop-step l =
    steps_value (found_in l.captures (seen l.table)) (drop l.step-index l.steps) (shape l.made) ≡ steps_value (found_in l.captures (seen l.table)) l.steps (shape l.initial.made)
