use Rattle.std.proofs.Common.{◌∙◌, option_map, sym, ap}
use Rattle.std.proofs.lemmas.Result.{IfOk-weaker}
use Rattle.doc_tree.specs.Shape.{shape}
use Rattle.policy_values.specs.Tables.{found_in, seen}
use Rattle.policy_values.proofs.Below.{steps_behind}
use Rattle.policy_values.proofs.values.steps_from.Goals as goal

pub returns-in-Some : goal.returns-in-Some
returns-in-Some c =
    let value = found_in c.args.captures.now (seen c.args.table.now) in
    IfOk-weaker c.steps_value.result _ _
    (λ x p. p ∙ steps_behind value c.args.steps.now c.step-item.result (shape c.args.tree.now) (shape c.in-Some.first) c.in-len1-up.len_at_least c.step-item.is (sym (ap (option_map shape) c.in-Some.is) ∙ c.in_ok-first.ensures))
    c.steps_value.ensures
