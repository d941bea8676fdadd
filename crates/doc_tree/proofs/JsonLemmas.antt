-- The value of a tree: in the order of its keys, with no float, and the tree again.
use Rattle.std.proofs.Common.{◌≡◌, ◌∙◌, ◌≤◌, ◌^◌, ◌&&◌, ℕ, suc, max, ℤ, pos, negsuc, List, Bool, true, false, not, Some, None, Ordering, Less, Equal, Greater, bytes_eq, refl, ap, ap₂, arith}
use Rattle.std.specs.Prelude.{unwrap_or, is_some, nat_lt, if◌then◌else◌}
use Rattle.std.proofs.lemmas.Bool.{and_from, and_parts, or_from}
use Rattle.std.proofs.lemmas.Cmp.{nat_list_eq_equiv}
use Rattle.std.proofs.lemmas.Map.Text.{is_eq-slice_cmp}
use Rattle.std.specs.Ordering.{nat_cmp, match_ordering, is_lt, is_eq}
use Rattle.std.specs.Cmp.Lexicographic.{slice_cmp}
use Rattle.serde_json.specs.Data.{null, number, unsigned, negative, array, object, item, member, put, depth, items_depth, members_depth}
use Rattle.serde_json.specs.Written.{has_float, items_have_float, members_have_float}
use Rattle.doc_tree.specs.Shape.{Shape, nothing, truth, whole, text, list, mapping, Shapes, no_shapes, more, Pairs, no_pairs, pair, lacks, is_distinct, shapes_are_distinct, pairs_are_distinct, levels, shapes_levels, pairs_levels}
use Rattle.doc_tree.specs.Order.{comes_before, insert, in_order, shapes_in_order, pairs_onto}
use Rattle.doc_tree.specs.JsonTree.{shape_of, items_shape, members_shape, not_whole, items_not_whole, members_not_whole}
use Rattle.doc_tree.specs.JsonText.{number_of, fits, shapes_fit, pairs_fit, data_of, items_of, members_of}
use Rattle.doc_tree.specs.Writing.{value_of, values_of, members_put}
use Rattle.doc_tree.proofs.Sorted.{parts3}

-- ---- the members that went in one after another are those of the pairs in order

-- the pairs that are to come have keys of their own, apart from those that have their place
abbrev are_apart : Pairs → Pairs → Bool
are_apart no_pairs placed = true
are_apart (pair k s ps) placed = lacks k placed && are_apart ps placed

put-insert_at : (o : Ordering) (k l : List ℕ) (s t : Shape) (ps : Pairs) → not (is_eq o) ≡ true → put k (data_of s) (members_of ps) ≡ members_of (insert k s ps)
    → match_ordering o (member k (data_of s) (member l (data_of t) (members_of ps))) (member l (data_of s) (members_of ps)) (member l (data_of t) (put k (data_of s) (members_of ps)))
    ≡ members_of (if is_lt o then pair k s (pair l t ps) else pair l t (insert k s ps))
put-insert_at Less k l s t ps other later = refl
put-insert_at Equal k l s t ps other later = absurd (cc)
put-insert_at Greater k l s t ps other later = ap (member l (data_of t)) later

put-insert : (k : List ℕ) (s : Shape) (ps : Pairs) → lacks k ps ≡ true → put k (data_of s) (members_of ps) ≡ members_of (insert k s ps)
put-insert k s no_pairs h = refl
put-insert k s (pair l t ps) h =
    let both = and_parts (not (bytes_eq k l)) (lacks k ps) h in
    put-insert_at (slice_cmp nat_cmp k l) k l s t ps (ap not (is_eq-slice_cmp k l) ∙ both.0) (put-insert k s ps both.1)

lacks-if : (b : Bool) (m : List ℕ) (ps qs : Pairs) → lacks m ps ≡ true → lacks m qs ≡ true → lacks m (if b then ps else qs) ≡ true
lacks-if true m ps qs p q = p
lacks-if false m ps qs p q = q

lacks-insert : (m k : List ℕ) (s : Shape) (ps : Pairs) → not (bytes_eq m k) ≡ true → lacks m ps ≡ true → lacks m (insert k s ps) ≡ true
lacks-insert m k s no_pairs p h = and_from (not (bytes_eq m k)) true p refl
lacks-insert m k s (pair l t ps) p h =
    let both = and_parts (not (bytes_eq m l)) (lacks m ps) h in
    lacks-if (comes_before k l) m (pair k s (pair l t ps)) (pair l t (insert k s ps)) (and_from (not (bytes_eq m k)) (lacks m (pair l t ps)) p h)
    (and_from (not (bytes_eq m l)) (lacks m (insert k s ps)) both.0 (lacks-insert m k s ps p both.1))

bytes_differ : (k l : List ℕ) → not (bytes_eq k l) ≡ true → not (bytes_eq l k) ≡ true
bytes_differ k l h = ap not (nat_list_eq_equiv.symm l k) ∙ h

apart-insert : (k : List ℕ) (s : Shape) (ps placed : Pairs) → lacks k ps ≡ true → are_apart ps placed ≡ true → are_apart ps (insert k s placed) ≡ true
apart-insert k s no_pairs placed p h = refl
apart-insert k s (pair l t ps) placed p h =
    let own = and_parts (not (bytes_eq k l)) (lacks k ps) p in
    let both = and_parts (lacks l placed) (are_apart ps placed) h in
    and_from (lacks l (insert k s placed)) (are_apart ps (insert k s placed)) (lacks-insert l k s placed (bytes_differ k l own.0) both.0) (apart-insert k s ps placed own.1 both.1)

apart-none : (ps : Pairs) → are_apart ps no_pairs ≡ true
apart-none no_pairs = refl
apart-none (pair k s ps) = apart-none ps

mutual
  pub value_of-in_order : (s : Shape) → is_distinct s ≡ true → value_of s ≡ data_of (in_order s)
  value_of-in_order nothing h = refl
  value_of-in_order (truth b) h = refl
  value_of-in_order (whole z) h = refl
  value_of-in_order (text s) h = refl
  value_of-in_order (list ss) h = ap array (values_of-in_order ss h)
  value_of-in_order (mapping ps) h = ap object (members_put-in_order ps no_pairs h (apart-none ps))

  values_of-in_order : (ss : Shapes) → shapes_are_distinct ss ≡ true → values_of ss ≡ items_of (shapes_in_order ss)
  values_of-in_order no_shapes h = refl
  values_of-in_order (more s ss) h =
      let both = and_parts (is_distinct s) (shapes_are_distinct ss) h in
      ap₂ item (value_of-in_order s both.0) (values_of-in_order ss both.1)

  members_put-in_order : (ps placed : Pairs) → pairs_are_distinct ps ≡ true → are_apart ps placed ≡ true → members_put ps (members_of placed) ≡ members_of (pairs_onto ps placed)
  members_put-in_order no_pairs placed h free = refl
  members_put-in_order (pair k s ps) placed h free =
      let three = parts3 (lacks k ps) (is_distinct s) (pairs_are_distinct ps) h in
      let both = and_parts (lacks k placed) (are_apart ps placed) free in
      ap (λ d. members_put ps (put k d (members_of placed))) (value_of-in_order s three.1)
      ∙ (ap (members_put ps) (put-insert k (in_order s) placed both.0)
      ∙ members_put-in_order ps (insert k (in_order s) placed) three.2 (apart-insert k (in_order s) ps placed three.0 both.1))

-- ---- the value of a tree whose numbers fit gives the tree again

whole_number : (z : ℤ) → is_some (number_of z) ≡ true → shape_of (unwrap_or (number_of z) null) ≡ whole z
whole_number (pos n) = go (nat_lt n (2 ^ 64)) where
  go : (b : Bool) → is_some (if b then Some (number (unsigned n)) else None) ≡ true → shape_of (unwrap_or (if b then Some (number (unsigned n)) else None) null) ≡ whole (pos n)
  go true h = refl
  go false h = absurd (cc)
whole_number (negsuc n) = go (nat_lt n (2 ^ 63)) where
  go : (b : Bool) → is_some (if b then Some (number (negative (negsuc n))) else None) ≡ true → shape_of (unwrap_or (if b then Some (number (negative (negsuc n))) else None) null) ≡ whole (negsuc n)
  go true h = refl
  go false h = absurd (cc)

mutual
  pub shape_of-data_of : (s : Shape) → fits s ≡ true → shape_of (data_of s) ≡ s
  shape_of-data_of nothing h = refl
  shape_of-data_of (truth b) h = refl
  shape_of-data_of (whole z) h = whole_number z h
  shape_of-data_of (text s) h = refl
  shape_of-data_of (list ss) h = ap list (items_shape-items_of ss h)
  shape_of-data_of (mapping ps) h = ap mapping (members_shape-members_of ps h)

  items_shape-items_of : (ss : Shapes) → shapes_fit ss ≡ true → items_shape (items_of ss) ≡ ss
  items_shape-items_of no_shapes h = refl
  items_shape-items_of (more s ss) h = let both = and_parts (fits s) (shapes_fit ss) h in ap₂ more (shape_of-data_of s both.0) (items_shape-items_of ss both.1)

  members_shape-members_of : (ps : Pairs) → pairs_fit ps ≡ true → members_shape (members_of ps) ≡ ps
  members_shape-members_of no_pairs h = refl
  members_shape-members_of (pair k s ps) h = let both = and_parts (fits s) (pairs_fit ps) h in ap₂ (pair k) (shape_of-data_of s both.0) (members_shape-members_of ps both.1)

number_is_whole : (z : ℤ) → not_whole (unwrap_or (number_of z) null) ≡ None
number_is_whole (pos n) = go (nat_lt n (2 ^ 64)) where
  go : (b : Bool) → not_whole (unwrap_or (if b then Some (number (unsigned n)) else None) null) ≡ None
  go true = refl
  go false = refl
number_is_whole (negsuc n) = go (nat_lt n (2 ^ 63)) where
  go : (b : Bool) → not_whole (unwrap_or (if b then Some (number (negative (negsuc n))) else None) null) ≡ None
  go true = refl
  go false = refl

mutual
  pub not_whole-data_of : (s : Shape) → not_whole (data_of s) ≡ None
  not_whole-data_of nothing = refl
  not_whole-data_of (truth b) = refl
  not_whole-data_of (whole z) = number_is_whole z
  not_whole-data_of (text s) = refl
  not_whole-data_of (list ss) = items_not_whole-items_of 0 ss
  not_whole-data_of (mapping ps) = members_not_whole-members_of ps

  items_not_whole-items_of : (i : ℕ) (ss : Shapes) → items_not_whole i (items_of ss) ≡ None
  items_not_whole-items_of i no_shapes = refl
  items_not_whole-items_of i (more s ss) = rw (not_whole-data_of s) (items_not_whole-items_of (suc i) ss)

  members_not_whole-members_of : (ps : Pairs) → members_not_whole (members_of ps) ≡ None
  members_not_whole-members_of no_pairs = refl
  members_not_whole-members_of (pair k s ps) = rw (not_whole-data_of s) (members_not_whole-members_of ps)

-- ---- it has no float

plain_number : (z : ℤ) → has_float (unwrap_or (number_of z) null) ≡ false
plain_number (pos n) = go (nat_lt n (2 ^ 64)) where
  go : (b : Bool) → has_float (unwrap_or (if b then Some (number (unsigned n)) else None) null) ≡ false
  go true = refl
  go false = refl
plain_number (negsuc n) = go (nat_lt n (2 ^ 63)) where
  go : (b : Bool) → has_float (unwrap_or (if b then Some (number (negative (negsuc n))) else None) null) ≡ false
  go true = refl
  go false = refl

mutual
  pub has_float-data_of : (s : Shape) → has_float (data_of s) ≡ false
  has_float-data_of nothing = refl
  has_float-data_of (truth b) = refl
  has_float-data_of (whole z) = plain_number z
  has_float-data_of (text s) = refl
  has_float-data_of (list ss) = items_have_float-items_of ss
  has_float-data_of (mapping ps) = members_have_float-members_of ps

  items_have_float-items_of : (ss : Shapes) → items_have_float (items_of ss) ≡ false
  items_have_float-items_of no_shapes = refl
  items_have_float-items_of (more s ss) = or_from (has_float (data_of s)) (items_have_float (items_of ss)) (has_float-data_of s) (items_have_float-items_of ss)

  members_have_float-members_of : (ps : Pairs) → members_have_float (members_of ps) ≡ false
  members_have_float-members_of no_pairs = refl
  members_have_float-members_of (pair k s ps) = or_from (has_float (data_of s)) (members_have_float (members_of ps)) (has_float-data_of s) (members_have_float-members_of ps)

-- ---- it nests no deeper than the tree

flat_number : (z : ℤ) → depth (unwrap_or (number_of z) null) ≡ 0
flat_number (pos n) = go (nat_lt n (2 ^ 64)) where
  go : (b : Bool) → depth (unwrap_or (if b then Some (number (unsigned n)) else None) null) ≡ 0
  go true = refl
  go false = refl
flat_number (negsuc n) = go (nat_lt n (2 ^ 63)) where
  go : (b : Bool) → depth (unwrap_or (if b then Some (number (negative (negsuc n))) else None) null) ≡ 0
  go true = refl
  go false = refl

mutual
  pub depth-data_of : (s : Shape) → depth (data_of s) ≤ levels s
  depth-data_of nothing = omega arith
  depth-data_of (truth b) = omega arith
  depth-data_of (whole z) = omega (arith, flat_number z)
  depth-data_of (text s) = omega arith
  depth-data_of (list ss) = omega (arith, items_depth-items_of ss)
  depth-data_of (mapping ps) = omega (arith, members_depth-members_of ps)

  items_depth-items_of : (ss : Shapes) → items_depth (items_of ss) ≤ shapes_levels ss
  items_depth-items_of no_shapes = omega arith
  items_depth-items_of (more s ss) = omega (arith, depth-data_of s, items_depth-items_of ss)

  members_depth-members_of : (ps : Pairs) → members_depth (members_of ps) ≤ pairs_levels ps
  members_depth-members_of no_pairs = omega arith
  members_depth-members_of (pair k s ps) = omega (arith, depth-data_of s, members_depth-members_of ps)

-- ---- a tree in order has the numbers and the levels of the tree

fit-if : (b : Bool) (ps qs : Pairs) → pairs_fit ps ≡ true → pairs_fit qs ≡ true → pairs_fit (if b then ps else qs) ≡ true
fit-if true ps qs p q = p
fit-if false ps qs p q = q

fit-insert : (k : List ℕ) (s : Shape) (ps : Pairs) → fits s ≡ true → pairs_fit ps ≡ true → pairs_fit (insert k s ps) ≡ true
fit-insert k s no_pairs p h = and_from (fits s) true p refl
fit-insert k s (pair l t ps) p h =
    let both = and_parts (fits t) (pairs_fit ps) h in
    fit-if (comes_before k l) (pair k s (pair l t ps)) (pair l t (insert k s ps)) (and_from (fits s) (pairs_fit (pair l t ps)) p h)
    (and_from (fits t) (pairs_fit (insert k s ps)) both.0 (fit-insert k s ps p both.1))

mutual
  pub fits-in_order : (s : Shape) → fits s ≡ true → fits (in_order s) ≡ true
  fits-in_order nothing h = refl
  fits-in_order (truth b) h = refl
  fits-in_order (whole z) h = h
  fits-in_order (text s) h = refl
  fits-in_order (list ss) h = shapes_fit-in_order ss h
  fits-in_order (mapping ps) h = pairs_fit-onto ps no_pairs h refl

  shapes_fit-in_order : (ss : Shapes) → shapes_fit ss ≡ true → shapes_fit (shapes_in_order ss) ≡ true
  shapes_fit-in_order no_shapes h = refl
  shapes_fit-in_order (more s ss) h =
      let both = and_parts (fits s) (shapes_fit ss) h in
      and_from (fits (in_order s)) (shapes_fit (shapes_in_order ss)) (fits-in_order s both.0) (shapes_fit-in_order ss both.1)

  pairs_fit-onto : (ps placed : Pairs) → pairs_fit ps ≡ true → pairs_fit placed ≡ true → pairs_fit (pairs_onto ps placed) ≡ true
  pairs_fit-onto no_pairs placed h p = p
  pairs_fit-onto (pair k s ps) placed h p =
      let both = and_parts (fits s) (pairs_fit ps) h in
      pairs_fit-onto ps (insert k (in_order s) placed) both.1 (fit-insert k (in_order s) placed (fits-in_order s both.0) p)

levels-if : (b : Bool) (n : ℕ) (ps qs : Pairs) → pairs_levels ps ≤ n → pairs_levels qs ≤ n → pairs_levels (if b then ps else qs) ≤ n
levels-if true n ps qs p q = p
levels-if false n ps qs p q = q

levels-insert : (k : List ℕ) (s : Shape) (ps : Pairs) → pairs_levels (insert k s ps) ≤ max (levels s) (pairs_levels ps)
levels-insert k s no_pairs = omega arith
levels-insert k s (pair l t ps) =
    levels-if (comes_before k l) _ (pair k s (pair l t ps)) (pair l t (insert k s ps)) (omega arith) (omega (arith, levels-insert k s ps))

mutual
  pub levels-in_order : (s : Shape) → levels (in_order s) ≤ levels s
  levels-in_order nothing = omega arith
  levels-in_order (truth b) = omega arith
  levels-in_order (whole z) = omega arith
  levels-in_order (text s) = omega arith
  levels-in_order (list ss) = omega (arith, shapes_levels-in_order ss)
  levels-in_order (mapping ps) = omega (arith, pairs_levels-onto ps no_pairs)

  shapes_levels-in_order : (ss : Shapes) → shapes_levels (shapes_in_order ss) ≤ shapes_levels ss
  shapes_levels-in_order no_shapes = omega arith
  shapes_levels-in_order (more s ss) = omega (arith, levels-in_order s, shapes_levels-in_order ss)

  pairs_levels-onto : (ps placed : Pairs) → pairs_levels (pairs_onto ps placed) ≤ max (pairs_levels ps) (pairs_levels placed)
  pairs_levels-onto no_pairs placed = omega arith
  pairs_levels-onto (pair k s ps) placed = omega (arith, pairs_levels-onto ps (insert k (in_order s) placed), levels-insert k (in_order s) placed, levels-in_order s)
