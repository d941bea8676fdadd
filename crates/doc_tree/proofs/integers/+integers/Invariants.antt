use Rattle.std.proofs.Common.{◌≡◌, drop, map}
use Rattle.doc_tree.specs.Integers.{items_fit, pairs_fit}
use Rattle.doc_tree.specs.Shape.{shape, pair_shape, shapes_of, pairs_of}
use Rattle.doc_tree.proofs.integers.+integers.Given as goal

abbrev pub invariant-items_laws-loop-tree : goal.invariant-items_laws-loop-tree
invariant-items_laws-loop-tree l = items_fit (shapes_of (map shape (drop l.tree-index l.tree-items))) ≡ items_fit (shapes_of (map shape l.tree-items))

abbrev pub invariant-pairs_laws-loop-tree : goal.invariant-pairs_laws-loop-tree
invariant-pairs_laws-loop-tree l = pairs_fit (pairs_of (map pair_shape (drop l.tree-index l.tree-items))) ≡ pairs_fit (pairs_of (map pair_shape l.tree-items))
