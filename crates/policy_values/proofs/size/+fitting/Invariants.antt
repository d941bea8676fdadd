use Rattle.std.proofs.Common.{◌≡◌, nat_le, drop, map}
use Rattle.doc_tree.specs.Shape.{shape, shapes_of, pair_shape, pairs_of, shapes_levels, pairs_levels}
use Rattle.policy_values.proofs.size.+fitting.Given as goal

abbrev pub invariant-all_fit-loop-tree : goal.invariant-all_fit-loop-tree
invariant-all_fit-loop-tree l = nat_le (shapes_levels (shapes_of (map shape (drop l.tree-index l.tree-items)))) l.room ≡ nat_le (shapes_levels (shapes_of (map shape l.tree-items))) l.room

abbrev pub invariant-pairs_fit-loop-pair : goal.invariant-pairs_fit-loop-pair
invariant-pairs_fit-loop-pair l = nat_le (pairs_levels (pairs_of (map pair_shape (drop l.pair-index l.pair-items)))) l.room ≡ nat_le (pairs_levels (pairs_of (map pair_shape l.pair-items))) l.room
