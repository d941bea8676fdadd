use Rattle.std.proofs.Common.{◌≡◌, nat_le, drop, map}
use Rattle.doc_tree.specs.Shape.{shape, shapes_of, pair_shape, pairs_of, shapes_levels, pairs_levels}
use Rattle.policy_model.specs.Places.{filled_among, filled_under}
use Rattle.policy_values.specs.Tables.{found_in, filler, seen}
use Rattle.policy_values.proofs.filling.+filled_levels.Given as goal

abbrev pub invariant-filled_all_fit-loop-tree : goal.invariant-filled_all_fit-loop-tree
invariant-filled_all_fit-loop-tree l =
    nat_le (shapes_levels (filled_among (filler (found_in l.captures (seen l.table))) (shapes_of (map shape (drop l.tree-index l.tree-items))))) l.room
    ≡ nat_le (shapes_levels (filled_among (filler (found_in l.captures (seen l.table))) (shapes_of (map shape l.tree-items)))) l.room

abbrev pub invariant-filled_pairs_fit-loop-pair : goal.invariant-filled_pairs_fit-loop-pair
invariant-filled_pairs_fit-loop-pair l =
    nat_le (pairs_levels (filled_under (filler (found_in l.captures (seen l.table))) (pairs_of (map pair_shape (drop l.pair-index l.pair-items))))) l.room
    ≡ nat_le (pairs_levels (filled_under (filler (found_in l.captures (seen l.table))) (pairs_of (map pair_shape l.pair-items)))) l.room
