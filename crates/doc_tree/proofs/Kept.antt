-- What is read of the printed value of a tree in order: that value.
use Rattle.std.proofs.Common.{◌≡◌, ◌∙◌, ◌++◌, ◌∷◌, [], ◌<◌, ◌^◌, ◌&&◌, ◌==◌, ℕ, suc, max, ℤ, pos, negsuc, List, length, Bool, true, false, Ordering, Less, Equal, Greater, Some, None, option_map, refl, sym, ap, ap₂, arith, append-nil, decimal, ltb-true, lt-ltb, le-leb, ne_eqb}
use Rattle.std.specs.Prelude.{is_some, unwrap_or, nat_lt, if◌then◌else◌, slice_index}
use Rattle.std.specs.Str.Parse.{AllDigits, digits_value}
use Rattle.std.specs.Fmt.{signed_decimal}
use Rattle.std.proofs.lemmas.Bool.{and_from, and_parts}
use Rattle.std.proofs.lemmas.Fmt.{decimal_is_IsNumeral}
use Rattle.std.proofs.lemmas.Float.Parse.{scan_numeral-text_of}
use Rattle.std.proofs.lemmas.Str.Parse.{digit_from_value}
use Rattle.std.proofs.lemmas.Cmp.{nat_list_cmp_total}
use Rattle.std.specs.Ordering.{nat_cmp, is_lt, ordering_reverse}
use Rattle.std.specs.Cmp.Lexicographic.{slice_cmp}
use Rattle.std.specs.Float.Numeral.{Parts, scan_numeral}
use Rattle.json.specs.Tree as tree
use Rattle.serde_json.specs.Data.{Data, null, boolean, number, string, unsigned, negative, array, object, Items, no_items, item, Members, no_members, member, depth, items_depth, members_depth}
use Rattle.serde_json.specs.Read.{of_json, of_items, of_members}
use Rattle.serde_json.specs.Read as read
use Rattle.serde_json.specs.Written.{outline, items_outline, members_outline}
use Rattle.doc_tree.specs.Shape.{Shape, nothing, truth, whole, text, list, mapping, Shapes, no_shapes, more, Pairs, no_pairs, pair, is_distinct}
use Rattle.doc_tree.specs.Order.{comes_before, is_before, is_in_order, shapes_are_in_order, pairs_are_in_order, insert, in_order, shapes_in_order, pairs_onto}
use Rattle.doc_tree.specs.JsonTree.{shape_of, items_shape}
use Rattle.doc_tree.specs.JsonText.{number_of, fits, shapes_fit, pairs_fit, data_of, items_of, members_of}
use Rattle.doc_tree.specs.Writing.{value_of, values_of, members_put}
use Rattle.doc_tree.proofs.JsonLemmas.{value_of-in_order, shape_of-data_of, fits-in_order}
use Rattle.doc_tree.proofs.Sorted.{AreInOrder, order-put, distinct-from_order, parts3}

-- ---- an integer's digits are read as the integer

digits_alone : List ℕ → Parts
digits_alone ds = record { whole = ds; point = false; fraction = []; exponent_negative = false; exponent = []; len = length ds }

scan-digits : (ds : List ℕ) → AllDigits 10 ds → scan_numeral ds ≡ digits_alone ds
unfolding digits_alone
scan-digits ds h =
    ap scan_numeral (sym (append-nil ds))
    ∙ scan_numeral-text_of (digits_alone ds)
    (record { whole_digits = h; fraction_digits = tt; exponent_digits = tt; no_point = λ _. refl; no_exponent = λ _. refl; len_is = ap length (sym (append-nil ds)) })

not_minus : (ds : List ℕ) → AllDigits 10 ds → 0 < length ds → (slice_index ds 0 == 45) ≡ false
not_minus [] h some = absurd (omega (arith, some))
not_minus (c ∷ cs) h some = let digit = digit_from_value c h.0 in ne_eqb c 45 (λ e. omega (arith, digit.0, e))

number_of-decimal : (n : ℕ) → n < 2 ^ 64 → read.number_of (decimal n) ≡ Some (unsigned n)
unfolding read.number_of digits_alone
number_of-decimal n h =
    let is = decimal_is_IsNumeral n h in
    let worth : digits_value 10 (decimal n ++ []) ≡ n = ap (digits_value 10) (append-nil (decimal n)) ∙ is.1 in
    rw (not_minus (decimal n) is.0.1 is.0.0, scan-digits (decimal n) is.0.1, lt-ltb 0 (length (decimal n)) is.0.0, worth, lt-ltb n (2 ^ 64) h) refl

number_of-below_zero : (n : ℕ) → n < 2 ^ 63 → read.number_of (signed_decimal (negsuc n)) ≡ Some (negative (negsuc n))
unfolding read.number_of digits_alone
number_of-below_zero n h =
    let is = decimal_is_IsNumeral (suc n) (omega arith) in
    let worth : digits_value 10 (decimal (suc n) ++ []) ≡ suc n = ap (digits_value 10) (append-nil (decimal (suc n))) ∙ is.1 in
    rw (scan-digits (decimal (suc n)) is.0.1, lt-ltb 0 (length (decimal (suc n))) is.0.0, worth, lt-ltb 0 (suc n) (omega arith), le-leb (suc n) (2 ^ 63) (omega arith)) refl

integer_read : (z : ℤ) → is_some (number_of z) ≡ true → of_json (outline (unwrap_or (number_of z) null)) ≡ Some (unwrap_or (number_of z) null)
integer_read (pos n) = go (nat_lt n (2 ^ 64)) refl where
  go : (b : Bool) → nat_lt n (2 ^ 64) ≡ b → is_some (if b then Some (number (unsigned n)) else None) ≡ true
      → of_json (outline (unwrap_or (if b then Some (number (unsigned n)) else None) null)) ≡ Some (unwrap_or (if b then Some (number (unsigned n)) else None) null)
  go true h fit = ap (option_map number) (number_of-decimal n (ltb-true n (2 ^ 64) h))
  go false h fit = refl
integer_read (negsuc n) = go (nat_lt n (2 ^ 63)) refl where
  go : (b : Bool) → nat_lt n (2 ^ 63) ≡ b → is_some (if b then Some (number (negative (negsuc n))) else None) ≡ true
      → of_json (outline (unwrap_or (if b then Some (number (negative (negsuc n))) else None) null)) ≡ Some (unwrap_or (if b then Some (number (negative (negsuc n))) else None) null)
  go true h fit = ap (option_map number) (number_of-below_zero n (ltb-true n (2 ^ 63) h))
  go false h fit = refl

-- ---- the value that is read, whose members went in one after another

mutual
  of_json-outline : (s : Shape) → fits s ≡ true → of_json (outline (data_of s)) ≡ Some (value_of s)
  of_json-outline nothing h = refl
  of_json-outline (truth b) h = refl
  of_json-outline (whole z) h = integer_read z h
  of_json-outline (text s) h = refl
  of_json-outline (list ss) h = ap (option_map array) (of_items-outline ss h)
  of_json-outline (mapping ps) h = ap (option_map object) (of_members-outline ps no_members h)

  of_items-outline : (ss : Shapes) → shapes_fit ss ≡ true → of_items (items_outline (items_of ss)) ≡ Some (values_of ss)
  of_items-outline no_shapes h = refl
  of_items-outline (more s ss) h = let both = and_parts (fits s) (shapes_fit ss) h in rw (of_json-outline s both.0, of_items-outline ss both.1) refl

  of_members-outline : (ps : Pairs) (found : Members) → pairs_fit ps ≡ true → of_members (members_outline (members_of ps)) found ≡ Some (members_put ps found)
  of_members-outline no_pairs found h = refl
  of_members-outline (pair k s ps) found h = let both = and_parts (fits s) (pairs_fit ps) h in rw (of_json-outline s both.0) (of_members-outline ps _ both.1)

-- ---- a tree that is brought into order is in order

integer_order : (z : ℤ) → is_in_order (shape_of (unwrap_or (number_of z) null)) ≡ true
integer_order (pos n) = go (nat_lt n (2 ^ 64)) where
  go : (b : Bool) → is_in_order (shape_of (unwrap_or (if b then Some (number (unsigned n)) else None) null)) ≡ true
  go true = refl
  go false = refl
integer_order (negsuc n) = go (nat_lt n (2 ^ 63)) where
  go : (b : Bool) → is_in_order (shape_of (unwrap_or (if b then Some (number (negative (negsuc n))) else None) null)) ≡ true
  go true = refl
  go false = refl

mutual
  value_in_order : (s : Shape) → is_in_order (shape_of (value_of s)) ≡ true
  value_in_order nothing = refl
  value_in_order (truth b) = refl
  value_in_order (whole z) = integer_order z
  value_in_order (text s) = refl
  value_in_order (list ss) = values_in_order ss
  value_in_order (mapping ps) = members_in_order ps no_members refl

  values_in_order : (ss : Shapes) → shapes_are_in_order (items_shape (values_of ss)) ≡ true
  values_in_order no_shapes = refl
  values_in_order (more s ss) = and_from (is_in_order (shape_of (value_of s))) (shapes_are_in_order (items_shape (values_of ss))) (value_in_order s) (values_in_order ss)

  members_in_order : (ps : Pairs) (found : Members) → AreInOrder found → AreInOrder (members_put ps found)
  members_in_order no_pairs found h = h
  members_in_order (pair k s ps) found h = members_in_order ps _ (order-put k (value_of s) found (value_in_order s) h)

order-in_order : (s : Shape) → is_distinct s ≡ true → fits s ≡ true → is_in_order (in_order s) ≡ true
order-in_order s distinct fit = ap is_in_order (sym (shape_of-data_of (in_order s) (fits-in_order s fit)) ∙ ap shape_of (sym (value_of-in_order s distinct))) ∙ value_in_order s

-- ---- a tree in order stays when it is brought into order

-- a key comes after those of all these pairs
abbrev is_after : List ℕ → Pairs → Bool
is_after k no_pairs = true
is_after k (pair l s ps) = comes_before l k && is_after k ps

-- each key comes after those that have their place
abbrev are_after : Pairs → Pairs → Bool
are_after no_pairs placed = true
are_after (pair k s ps) placed = is_after k placed && are_after ps placed

abbrev behind : Pairs → Pairs → Pairs
behind no_pairs ps = ps
behind (pair k s placed) ps = pair k s (behind placed ps)

not_less : (o : Ordering) → is_lt o ≡ true → is_lt (ordering_reverse o) ≡ false
not_less Less h = refl
not_less Equal h = absurd (cc)
not_less Greater h = absurd (cc)

not_before : (k l : List ℕ) → comes_before l k ≡ true → comes_before k l ≡ false
not_before k l h = ap is_lt (nat_list_cmp_total.antisymm k l) ∙ not_less (slice_cmp nat_cmp l k) h

insert-last : (k : List ℕ) (s : Shape) (placed : Pairs) → is_after k placed ≡ true → insert k s placed ≡ behind placed (pair k s no_pairs)
insert-last k s no_pairs h = refl
insert-last k s (pair l t ps) h =
    let both = and_parts (comes_before l k) (is_after k ps) h in
    rw (not_before k l both.0) (ap (pair l t) (insert-last k s ps both.1))

behind-behind : (ps : Pairs) (k : List ℕ) (s : Shape) (qs : Pairs) → behind (behind ps (pair k s no_pairs)) qs ≡ behind ps (pair k s qs)
behind-behind no_pairs k s qs = refl
behind-behind (pair l t ps) k s qs = ap (pair l t) (behind-behind ps k s qs)

behind_nothing : (ps : Pairs) → behind ps no_pairs ≡ ps
behind_nothing no_pairs = refl
behind_nothing (pair k s ps) = ap (pair k s) (behind_nothing ps)

is_after-behind : (m k : List ℕ) (s : Shape) (ps : Pairs) → comes_before k m ≡ true → is_after m ps ≡ true → is_after m (behind ps (pair k s no_pairs)) ≡ true
is_after-behind m k s no_pairs p h = and_from (comes_before k m) true p refl
is_after-behind m k s (pair l t ps) p h =
    let both = and_parts (comes_before l m) (is_after m ps) h in
    and_from (comes_before l m) (is_after m (behind ps (pair k s no_pairs))) both.0 (is_after-behind m k s ps p both.1)

are_after-behind : (k : List ℕ) (s : Shape) (ps placed : Pairs) → is_before k ps ≡ true → are_after ps placed ≡ true → are_after ps (behind placed (pair k s no_pairs)) ≡ true
are_after-behind k s no_pairs placed p h = refl
are_after-behind k s (pair l t ps) placed p h =
    let own = and_parts (comes_before k l) (is_before k ps) p in
    let both = and_parts (is_after l placed) (are_after ps placed) h in
    and_from (is_after l (behind placed (pair k s no_pairs))) (are_after ps (behind placed (pair k s no_pairs))) (is_after-behind l k s placed own.0 both.0) (are_after-behind k s ps placed own.1 both.1)

are_after-none : (ps : Pairs) → are_after ps no_pairs ≡ true
are_after-none no_pairs = refl
are_after-none (pair k s ps) = are_after-none ps

mutual
  in_order-same : (s : Shape) → is_in_order s ≡ true → in_order s ≡ s
  in_order-same nothing h = refl
  in_order-same (truth b) h = refl
  in_order-same (whole z) h = refl
  in_order-same (text s) h = refl
  in_order-same (list ss) h = ap list (shapes_in_order-same ss h)
  in_order-same (mapping ps) h = ap mapping (pairs_onto-behind ps no_pairs h (are_after-none ps))

  shapes_in_order-same : (ss : Shapes) → shapes_are_in_order ss ≡ true → shapes_in_order ss ≡ ss
  shapes_in_order-same no_shapes h = refl
  shapes_in_order-same (more s ss) h = let both = and_parts (is_in_order s) (shapes_are_in_order ss) h in ap₂ more (in_order-same s both.0) (shapes_in_order-same ss both.1)

  pairs_onto-behind : (ps placed : Pairs) → pairs_are_in_order ps ≡ true → are_after ps placed ≡ true → pairs_onto ps placed ≡ behind placed ps
  pairs_onto-behind no_pairs placed h p = sym (behind_nothing placed)
  pairs_onto-behind (pair k s ps) placed h p =
      let three = parts3 (is_before k ps) (is_in_order s) (pairs_are_in_order ps) h in
      let both = and_parts (is_after k placed) (are_after ps placed) p in
      rw (in_order-same s three.1, insert-last k s placed both.0)
      (pairs_onto-behind ps (behind placed (pair k s no_pairs)) three.2 (are_after-behind k s ps placed three.0 both.1) ∙ behind-behind placed k s ps)

-- what is read of the printed value of a tree in order is that value
pub of_json-in_order : (s : Shape) → is_distinct s ≡ true → fits s ≡ true → of_json (outline (data_of (in_order s))) ≡ Some (data_of (in_order s))
of_json-in_order s distinct fit =
    let t = in_order s in
    let order = order-in_order s distinct fit in
    of_json-outline t (fits-in_order s fit) ∙ ap Some (value_of-in_order t (distinct-from_order t order) ∙ ap data_of (in_order-same t order))

-- ---- its JSON nests as deep as the value

mutual
  pub depth-outline : (d : Data) → tree.depth (outline d) ≡ depth d
  depth-outline null = refl
  depth-outline (boolean b) = refl
  depth-outline (number n) = refl
  depth-outline (string s) = refl
  depth-outline (array ds) = ap suc (items_depth-outline ds)
  depth-outline (object ms) = ap suc (members_depth-outline ms)

  items_depth-outline : (ds : Items) → tree.items_depth (items_outline ds) ≡ items_depth ds
  items_depth-outline no_items = refl
  items_depth-outline (item d ds) = ap₂ max (depth-outline d) (items_depth-outline ds)

  members_depth-outline : (ms : Members) → tree.members_depth (members_outline ms) ≡ members_depth ms
  members_depth-outline no_members = refl
  members_depth-outline (member k d ms) = ap₂ max (depth-outline d) (members_depth-outline ms)
