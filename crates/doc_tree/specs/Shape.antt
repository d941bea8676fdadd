-- A tree as plain data, and what is said of trees: distinct keys, levels, the lengths of lists.
use Rattle.std.specs.Prelude.{ℕ, suc, max, ◌^◌, ℤ, List, [], ◌∷◌, Bool, true, not, ◌&&◌, nat_lt, bytes_eq}
use Rattle.doc_tree.specs.declared.tree.Tree.{Tree, fold-Tree}
use Rattle.doc_tree.specs.declared.tree.Tree.TheOpen.{Tree-F}

mutual
  pub data Shape : Type 0 where
    nothing : Shape
    truth : Bool → Shape
    whole : ℤ → Shape
    text : List ℕ → Shape
    list : Shapes → Shape
    mapping : Pairs → Shape

  pub data Shapes : Type 0 where
    no_shapes : Shapes
    more : Shape → Shapes → Shapes

  pub data Pairs : Type 0 where
    no_pairs : Pairs
    pair : List ℕ → Shape → Pairs → Pairs

abbrev pub shapes_of : List Shape → Shapes
shapes_of [] = no_shapes
shapes_of (s ∷ ss) = more s (shapes_of ss)

abbrev pub pairs_of : List (List ℕ × Shape) → Pairs
pairs_of [] = no_pairs
pairs_of (p ∷ ps) = pair p.0 p.1 (pairs_of ps)

-- one level, with each tree inside already seen as its shape
abbrev pub shape_step : Tree-F Shape → Shape
shape_step Tree-F.Null = nothing
shape_step (Tree-F.Bool b) = truth b
shape_step (Tree-F.Int n) = whole n
shape_step (Tree-F.Text s) = text s
shape_step (Tree-F.List v) = list (shapes_of v.items)
shape_step (Tree-F.Map v) = mapping (pairs_of v.items)

abbrev pub shape : Tree → Shape
shape = fold-Tree Shape shape_step

abbrev pub pair_shape : List ℕ × Tree → List ℕ × Shape
pair_shape p = (p.0, shape p.1)

-- ---- distinct: the keys of each map differ

-- no pair has this key
abbrev pub lacks : List ℕ → Pairs → Bool
lacks k no_pairs = true
lacks k (pair l s ps) = not (bytes_eq k l) && lacks k ps

abbrev mutual
  pub is_distinct : Shape → Bool
  is_distinct nothing = true
  is_distinct (truth b) = true
  is_distinct (whole z) = true
  is_distinct (text s) = true
  is_distinct (list ss) = shapes_are_distinct ss
  is_distinct (mapping ps) = pairs_are_distinct ps

  pub shapes_are_distinct : Shapes → Bool
  shapes_are_distinct no_shapes = true
  shapes_are_distinct (more s ss) = is_distinct s && shapes_are_distinct ss

  pub pairs_are_distinct : Pairs → Bool
  pairs_are_distinct no_pairs = true
  pairs_are_distinct (pair k s ps) = lacks k ps && is_distinct s && pairs_are_distinct ps

-- ---- levels: every node has one, scalars too, and the top node is level 1

abbrev mutual
  pub levels : Shape → ℕ
  levels nothing = 1
  levels (truth b) = 1
  levels (whole z) = 1
  levels (text s) = 1
  levels (list ss) = suc (shapes_levels ss)
  levels (mapping ps) = suc (pairs_levels ps)

  pub shapes_levels : Shapes → ℕ
  shapes_levels no_shapes = 0
  shapes_levels (more s ss) = max (levels s) (shapes_levels ss)

  pub pairs_levels : Pairs → ℕ
  pairs_levels no_pairs = 0
  pairs_levels (pair k s ps) = max (levels s) (pairs_levels ps)

-- ---- short lists: each list has fewer than 2^31 items, so that each position fits a path's step

abbrev pub item_count : Shapes → ℕ
item_count no_shapes = 0
item_count (more s ss) = suc (item_count ss)

abbrev mutual
  pub has_short_lists : Shape → Bool
  has_short_lists nothing = true
  has_short_lists (truth b) = true
  has_short_lists (whole z) = true
  has_short_lists (text s) = true
  has_short_lists (list ss) = nat_lt (item_count ss) (2 ^ 31) && shapes_have_short_lists ss
  has_short_lists (mapping ps) = pairs_have_short_lists ps

  pub shapes_have_short_lists : Shapes → Bool
  shapes_have_short_lists no_shapes = true
  shapes_have_short_lists (more s ss) = has_short_lists s && shapes_have_short_lists ss

  pub pairs_have_short_lists : Pairs → Bool
  pairs_have_short_lists no_pairs = true
  pairs_have_short_lists (pair k s ps) = has_short_lists s && pairs_have_short_lists ps
