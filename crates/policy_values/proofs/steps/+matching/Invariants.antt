use Rattle.std.proofs.Common.{◌≡◌, drop, map}
use Rattle.doc_tree.specs.Shape.{shape, shapes_of, pair_shape, pairs_of}
use Rattle.policy_model.specs.Steps.{some_matches, matches_under}
use Rattle.policy_values.proofs.steps.+matching.Given as goal

abbrev pub invariant-some_matches-loop-tree : goal.invariant-some_matches-loop-tree
invariant-some_matches-loop-tree l = some_matches l.value l.path (shapes_of (map shape (drop l.tree-index l.tree-items))) ≡ some_matches l.value l.path (shapes_of (map shape l.tree-items))

abbrev pub invariant-matches_under-loop-pair : goal.invariant-matches_under-loop-pair
invariant-matches_under-loop-pair l = matches_under l.value l.key l.keys (pairs_of (map pair_shape (drop l.pair-index l.pair-items))) ≡ matches_under l.value l.key l.keys (pairs_of (map pair_shape l.pair-items))
