use Rattle.std.proofs.Common.{◌≡◌, drop, map}
use Rattle.doc_tree.specs.Shape.{shape, shapes_of, pair_shape, pairs_of}
use Rattle.policy_model.specs.Values.{nodes_among, nodes_under}
use Rattle.policy_values.specs.Sizes.{left_behind}
use Rattle.policy_values.proofs.size.+counting.Given as goal

abbrev pub invariant-count_all-loop-tree : goal.invariant-count_all-loop-tree
invariant-count_all-loop-tree l = left_behind l.rest (nodes_among (shapes_of (map shape (drop l.tree-index l.tree-items)))) ≡ left_behind l.left (nodes_among (shapes_of (map shape l.tree-items)))

abbrev pub invariant-count_pairs-loop-pair : goal.invariant-count_pairs-loop-pair
invariant-count_pairs-loop-pair l = left_behind l.rest (nodes_under (pairs_of (map pair_shape (drop l.pair-index l.pair-items)))) ≡ left_behind l.left (nodes_under (pairs_of (map pair_shape l.pair-items)))
