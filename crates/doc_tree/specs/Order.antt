-- The pairs of each map in the order of their keys' bytes.
use Rattle.std.specs.Prelude.{ℕ, List, Bool, true, ◌&&◌, if◌then◌else◌}
use Rattle.std.specs.Ordering.{nat_cmp, is_lt}
use Rattle.std.specs.Cmp.Lexicographic.{slice_cmp}
use Rattle.doc_tree.specs.Shape.{Shape, nothing, truth, whole, text, list, mapping, Shapes, no_shapes, more, Pairs, no_pairs, pair}

-- one text comes before another: byte by byte, and a text before those that it begins
abbrev pub comes_before : List ℕ → List ℕ → Bool
comes_before k l = is_lt (slice_cmp nat_cmp k l)

-- a key comes before those of all these pairs
abbrev pub is_before : List ℕ → Pairs → Bool
is_before k no_pairs = true
is_before k (pair l s ps) = comes_before k l && is_before k ps

-- each map's pairs are in the order of their keys, each key once
abbrev mutual
  pub is_in_order : Shape → Bool
  is_in_order nothing = true
  is_in_order (truth b) = true
  is_in_order (whole z) = true
  is_in_order (text s) = true
  is_in_order (list ss) = shapes_are_in_order ss
  is_in_order (mapping ps) = pairs_are_in_order ps

  pub shapes_are_in_order : Shapes → Bool
  shapes_are_in_order no_shapes = true
  shapes_are_in_order (more s ss) = is_in_order s && shapes_are_in_order ss

  pub pairs_are_in_order : Pairs → Bool
  pairs_are_in_order no_pairs = true
  pairs_are_in_order (pair k s ps) = is_before k ps && is_in_order s && pairs_are_in_order ps

-- ---- the same tree with each map's pairs brought into that order

-- a pair goes before the first one whose key comes after its own
abbrev pub insert : List ℕ → Shape → Pairs → Pairs
insert k s no_pairs = pair k s no_pairs
insert k s (pair l t ps) = if comes_before k l then pair k s (pair l t ps) else pair l t (insert k s ps)

abbrev mutual
  pub in_order : Shape → Shape
  in_order nothing = nothing
  in_order (truth b) = truth b
  in_order (whole z) = whole z
  in_order (text s) = text s
  in_order (list ss) = list (shapes_in_order ss)
  in_order (mapping ps) = mapping (pairs_onto ps no_pairs)

  pub shapes_in_order : Shapes → Shapes
  shapes_in_order no_shapes = no_shapes
  shapes_in_order (more s ss) = more (in_order s) (shapes_in_order ss)

  -- the pairs go one after another among those that have their place
  pub pairs_onto : Pairs → Pairs → Pairs
  pairs_onto no_pairs placed = placed
  pairs_onto (pair k s ps) placed = pairs_onto ps (insert k (in_order s) placed)
