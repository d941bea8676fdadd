-- The whole numbers of a tree have 128 bits.
use Rattle.std.specs.Prelude.{◌^◌, ℤ, pos, negsuc, Bool, true, ◌&&◌, nat_lt}
use Rattle.doc_tree.specs.Shape.{Shape, nothing, truth, whole, text, list, mapping, Shapes, no_shapes, more, Pairs, no_pairs, pair}

abbrev pub has_128_bits : ℤ → Bool
has_128_bits (pos n) = nat_lt n (2 ^ 127)
has_128_bits (negsuc n) = nat_lt n (2 ^ 127)

abbrev mutual
  pub integers_fit : Shape → Bool
  integers_fit nothing = true
  integers_fit (truth b) = true
  integers_fit (whole z) = has_128_bits z
  integers_fit (text s) = true
  integers_fit (list ts) = items_fit ts
  integers_fit (mapping ps) = pairs_fit ps

  pub items_fit : Shapes → Bool
  items_fit no_shapes = true
  items_fit (more t ts) = integers_fit t && items_fit ts

  pub pairs_fit : Pairs → Bool
  pairs_fit no_pairs = true
  pairs_fit (pair k t ps) = integers_fit t && pairs_fit ps
