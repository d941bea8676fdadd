use Rattle.std.proofs.Common.{◌∙◌, map, option_map, ap, Vec, Global}
use Rattle.std.proofs.lemmas.Result.{IfOk-weaker}
use Rattle.base_model.specs.declared.Str.{Str}
use Rattle.doc_tree.specs.Shape.{shape, pair_shape, pairs_of}
use Rattle.doc_tree.specs.Lookup.{find}
use Rattle.doc_tree.specs.declared.Tree.{Tree}
use Rattle.doc_tree.proofs.lemmas.Trees.{shape-Map}
use Rattle.policy_values.proofs.Below.{narrowed_in_map}
use Rattle.policy_values.proofs.steps.+narrowed_of.Goals as goal

pub returns-in-Map : goal.returns-in-Map
returns-in-Map t c =
    let k = c.key-item.result in
    IfOk-weaker c.only_found.result _ _
    (λ x p. p ∙ narrowed_in_map c.args.verb c.args.value.now c.args.path.now k (shape c.args.tree) (shape c.in-Some.below) (pairs_of (map pair_shape c.in-Map.pairs.items)) (option_map shape c.in_ok-narrowed_of-in-Map.field-0)
    (ap shape c.in-Map.is ∙ shape-Map c.in-Map.pairs) c.in-len1-up.len_at_least c.key-item.is
    (c.in-Some.ensures ∙ ap (λ (ps : Vec (Str × Tree) Global). find k (pairs_of (map pair_shape ps.items))) (c.replace-pairs.ensures.value ∙ c.in-Map.pairs-is)) c.in_ok-narrowed_of-in-Map.ensures)
    c.only_found.ensures
