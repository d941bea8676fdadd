use Rattle.std.proofs.Common.{◌≡◌, drop, map}
use Rattle.doc_tree.specs.Shape.{pair_shape, pairs_of}
use Rattle.doc_tree.specs.Lookup.{find}
use Rattle.doc_tree.proofs.lookup.find.Given as goal

-- the key isn't among the pairs before
abbrev pub invariant-loop-pair : goal.invariant-loop-pair
invariant-loop-pair l = find l.key (pairs_of (map pair_shape (drop l.pair-index l.pairs.items))) ≡ find l.key (pairs_of (map pair_shape l.pairs.items))
