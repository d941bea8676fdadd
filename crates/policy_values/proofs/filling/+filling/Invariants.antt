use Rattle.std.proofs.Common.{◌≡◌, take, map}
use Rattle.doc_tree.specs.Shape.{shape, pair_shape}
use Rattle.policy_model.specs.Places.{filled}
use Rattle.policy_values.specs.Tables.{found_in, filler, seen}
use Rattle.policy_values.specs.Lists.{filled_pair}
use Rattle.policy_values.proofs.filling.+filling.Given as goal

abbrev pub invariant-filled_among-loop-tree : goal.invariant-filled_among-loop-tree
invariant-filled_among-loop-tree l = map shape l.found.items ≡ map (λ t. filled (filler (found_in l.captures (seen l.table))) (shape t)) (take l.tree-index l.tree-items)

abbrev pub invariant-filled_under-loop-pair : goal.invariant-filled_under-loop-pair
invariant-filled_under-loop-pair l = map pair_shape l.found.items ≡ map (filled_pair (filler (found_in l.captures (seen l.table)))) (take l.pair-index l.pair-items)
