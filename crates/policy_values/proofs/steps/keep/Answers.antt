use Rattle.std.proofs.Common.{◌∙◌, List, map, ap, rules}
use Rattle.std.proofs.lemmas.Fn.{filter_same}
use Rattle.doc_tree.specs.Shape.{shape, shapes_of}
use Rattle.doc_tree.specs.declared.Tree.{Tree}
use Rattle.policy_model.specs.Steps.{matches}
use Rattle.policy_values.proofs.Listed.{kept_filtered}
use Rattle.policy_values.proofs.steps.keep.Goals as goal

pub returns : goal.returns
returns c =
    let v = c.args.value.now in
    let path = c.args.path.now in
    ap (λ (ts : List Tree). shapes_of (map shape ts)) (filter_same _ (λ t. matches v path (shape t)) _ (λ x b f' k. search rules) _ _ c.retain.ensures.filtered)
    ∙ kept_filtered v path c.args.trees.items
