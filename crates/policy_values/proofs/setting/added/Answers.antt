use Rattle.std.proofs.Common.{◌∙◌, ℕ, List, map, option_map, Some, ap, arith}
use Rattle.std.proofs.lemmas.Bool.Decides.{nat_tests}
use Rattle.doc_tree.specs.Shape.{Pairs, pair_shape, pairs_of}
use Rattle.doc_tree.specs.declared.Tree.{Tree}
use Rattle.policy_model.specs.Steps.{tree_of}
use Rattle.policy_lang.specs.Parting.{pairs_onto}
use Rattle.policy_values.proofs.InPlace.{pairs_added, last_added}
use Rattle.policy_values.proofs.setting.added.Goals as goal

pub returns : goal.returns
returns c =
    let v = c.args.value.now in
    let k = c.args.key.now in
    ap (λ (ps : List (List ℕ × Tree)). Some (pairs_of (map pair_shape ps))) c.in_ok-push.ensures.items
    ∙ ap (λ (ps : Pairs). Some ps) (pairs_added c.args.pairs.items c.in_ok-name.name c.in_ok-tree_of.field-0 k (tree_of v) c.in_ok-name.ensures c.in_ok-tree_of.ensures)
    ∙ ap (option_map (pairs_onto (map pair_shape c.args.pairs.items))) (last_added v k c.args.keys.now (grind (arith, nat_tests)))
