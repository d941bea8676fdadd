use Rattle.std.proofs.Common.{◌∙◌, option_map, ap}
use Rattle.std.proofs.lemmas.Result.{IfOk-weaker}
use Rattle.doc_tree.specs.Shape.{shape}
use Rattle.doc_tree.specs.Lookup.{get}
use Rattle.policy_values.proofs.Below.{narrowed_in}
use Rattle.policy_values.proofs.steps.+narrowed.Goals as goal

pub returns : goal.returns
returns t c =
    let tree = shape c.args.tree.now in
    IfOk-weaker c.only_found.result _ _
    (λ x p. p ∙ narrowed_in c.args.verb c.args.value.now c.args.path.now c.key-item.result tree (shape c.in-Some.below.now) (option_map shape c.in_ok-narrowed.field-0) c.in-len1-up.len_at_least c.key-item.is
    (c.in-Some.ensures ∙ ap (λ k. get k tree) c.as_str.ensures) c.in_ok-narrowed.ensures)
    c.only_found.ensures
