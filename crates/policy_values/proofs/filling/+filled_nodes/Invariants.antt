use Rattle.std.proofs.Common.{◌≡◌, drop, map}
use Rattle.doc_tree.specs.Shape.{shape, shapes_of, pair_shape, pairs_of}
use Rattle.policy_model.specs.Places.{filled_among, filled_under}
use Rattle.policy_model.specs.Values.{nodes_among, nodes_under}
use Rattle.policy_values.specs.Sizes.{left_behind}
use Rattle.policy_values.specs.Tables.{found_in, filler, seen}
use Rattle.policy_values.proofs.filling.+filled_nodes.Given as goal

abbrev pub invariant-filled_count_all-loop-tree : goal.invariant-filled_count_all-loop-tree
invariant-filled_count_all-loop-tree l =
    left_behind l.rest (nodes_among (filled_among (filler (found_in l.captures (seen l.table))) (shapes_of (map shape (drop l.tree-index l.tree-items)))))
    ≡ left_behind l.left (nodes_among (filled_among (filler (found_in l.captures (seen l.table))) (shapes_of (map shape l.tree-items))))

abbrev pub invariant-filled_count_pairs-loop-pair : goal.invariant-filled_count_pairs-loop-pair
invariant-filled_count_pairs-loop-pair l =
    left_behind l.rest (nodes_under (filled_under (filler (found_in l.captures (seen l.table))) (pairs_of (map pair_shape (drop l.pair-index l.pair-items)))))
    ≡ left_behind l.left (nodes_under (filled_under (filler (found_in l.captures (seen l.table))) (pairs_of (map pair_shape l.pair-items))))
