-- Keys in the order of their bytes: they differ, and a put keeps the order.
use Rattle.std.proofs.Common.{◌≡◌, ◌∙◌, ◌&&◌, ℕ, List, Bool, true, not, Ordering, Less, Equal, Greater, bytes_eq, refl, sym, ap}
use Rattle.std.proofs.lemmas.Bool.{and_from, and_parts}
use Rattle.std.proofs.lemmas.Cmp.{nat_list_cmp_total}
use Rattle.std.proofs.lemmas.Map.Text.{is_eq-slice_cmp}
use Rattle.std.specs.Ordering.{nat_cmp, is_lt, is_eq, match_ordering, ordering_reverse}
use Rattle.std.specs.Cmp.Lexicographic.{slice_cmp}
use Rattle.serde_json.specs.Data.{Data, Members, no_members, member, put}
use Rattle.doc_tree.specs.Shape.{Shape, nothing, truth, whole, text, list, mapping, Shapes, no_shapes, more, Pairs, no_pairs, pair, lacks, is_distinct, shapes_are_distinct, pairs_are_distinct}
use Rattle.doc_tree.specs.Order.{comes_before, is_before, is_in_order, shapes_are_in_order, pairs_are_in_order}
use Rattle.doc_tree.specs.JsonTree.{shape_of, members_shape}

less : (o : Ordering) → is_lt o ≡ true → o ≡ Less
less Less e = refl
less Equal e = absurd (cc)
less Greater e = absurd (cc)

apart : (o : Ordering) → is_lt o ≡ true → not (is_eq o) ≡ true
apart Less e = refl
apart Equal e = absurd (cc)
apart Greater e = absurd (cc)

pub comes_before-trans : (k l m : List ℕ) → comes_before k l ≡ true → comes_before l m ≡ true → comes_before k m ≡ true
comes_before-trans k l m p q = ap is_lt (nat_list_cmp_total.trans k l m (less (slice_cmp nat_cmp k l) p) (less (slice_cmp nat_cmp l m) q))

pub is_before-trans : (k l : List ℕ) (ps : Pairs) → comes_before k l ≡ true → is_before l ps ≡ true → is_before k ps ≡ true
is_before-trans k l no_pairs p q = refl
is_before-trans k l (pair m s ps) p q =
    let both = and_parts (comes_before l m) (is_before l ps) q in
    and_from (comes_before k m) (is_before k ps) (comes_before-trans k l m p both.0) (is_before-trans k l ps p both.1)

pub lacks-from_before : (k : List ℕ) (ps : Pairs) → is_before k ps ≡ true → lacks k ps ≡ true
lacks-from_before k no_pairs h = refl
lacks-from_before k (pair l s ps) h =
    let both = and_parts (comes_before k l) (is_before k ps) h in
    and_from (not (bytes_eq k l)) (lacks k ps) (ap not (sym (is_eq-slice_cmp k l)) ∙ apart (slice_cmp nat_cmp k l) both.0) (lacks-from_before k ps both.1)

-- a record of the parts of an ordered or distinct map
pub parts3 : (a b c : Bool) → (a && b && c) ≡ true → (a ≡ true) × (b ≡ true) × (c ≡ true)
parts3 a b c h = let outer = and_parts (a && b) c h in let inner = and_parts a b outer.0 in (inner.0, inner.1, outer.1)

from3 : (a b c : Bool) → a ≡ true → b ≡ true → c ≡ true → (a && b && c) ≡ true
from3 a b c p q r = and_from (a && b) c (and_from a b p q) r

mutual
  pub distinct-from_order : (s : Shape) → is_in_order s ≡ true → is_distinct s ≡ true
  distinct-from_order nothing h = refl
  distinct-from_order (truth b) h = refl
  distinct-from_order (whole z) h = refl
  distinct-from_order (text s) h = refl
  distinct-from_order (list ss) h = shapes_distinct-from_order ss h
  distinct-from_order (mapping ps) h = pairs_distinct-from_order ps h

  shapes_distinct-from_order : (ss : Shapes) → shapes_are_in_order ss ≡ true → shapes_are_distinct ss ≡ true
  shapes_distinct-from_order no_shapes h = refl
  shapes_distinct-from_order (more s ss) h =
      let both = and_parts (is_in_order s) (shapes_are_in_order ss) h in
      and_from (is_distinct s) (shapes_are_distinct ss) (distinct-from_order s both.0) (shapes_distinct-from_order ss both.1)

  pairs_distinct-from_order : (ps : Pairs) → pairs_are_in_order ps ≡ true → pairs_are_distinct ps ≡ true
  pairs_distinct-from_order no_pairs h = refl
  pairs_distinct-from_order (pair k s ps) h =
      let three = parts3 (is_before k ps) (is_in_order s) (pairs_are_in_order ps) h in
      from3 (lacks k ps) (is_distinct s) (pairs_are_distinct ps) (lacks-from_before k ps three.0) (distinct-from_order s three.1) (pairs_distinct-from_order ps three.2)

-- ---- a put among members

back : (o : Ordering) → o ≡ Greater → is_lt (ordering_reverse o) ≡ true
back o e = ap (λ p. is_lt (ordering_reverse p)) e

before-back : (k l : List ℕ) → slice_cmp nat_cmp k l ≡ Greater → comes_before l k ≡ true
before-back k l e = ap is_lt (nat_list_cmp_total.antisymm l k) ∙ back (slice_cmp nat_cmp k l) e

is_before-put_at : (o : Ordering) (k l m : List ℕ) (d e : Data) (ms : Members) → comes_before l k ≡ true → comes_before l m ≡ true → is_before l (members_shape ms) ≡ true
    → is_before l (members_shape (put k d ms)) ≡ true → is_before l (members_shape (match_ordering o (member k d (member m e ms)) (member m d ms) (member m e (put k d ms)))) ≡ true
is_before-put_at Less k l m d e ms p q r s = and_from (comes_before l k) _ p (and_from (comes_before l m) (is_before l (members_shape ms)) q r)
is_before-put_at Equal k l m d e ms p q r s = and_from (comes_before l m) (is_before l (members_shape ms)) q r
is_before-put_at Greater k l m d e ms p q r s = and_from (comes_before l m) (is_before l (members_shape (put k d ms))) q s

is_before-put : (k l : List ℕ) (d : Data) (ms : Members) → comes_before l k ≡ true → is_before l (members_shape ms) ≡ true → is_before l (members_shape (put k d ms)) ≡ true
is_before-put k l d no_members p q = and_from (comes_before l k) true p refl
is_before-put k l d (member m e ms) p q =
    let both = and_parts (comes_before l m) (is_before l (members_shape ms)) q in
    is_before-put_at (slice_cmp nat_cmp k m) k l m d e ms p both.0 both.1 (is_before-put k l d ms p both.1)

abbrev pub AreInOrder : Members → Type 0
AreInOrder ms = pairs_are_in_order (members_shape ms) ≡ true

order-put_at : (o : Ordering) (k l : List ℕ) (d e : Data) (ms : Members) → slice_cmp nat_cmp k l ≡ o → is_in_order (shape_of d) ≡ true → is_before l (members_shape ms) ≡ true
    → is_in_order (shape_of e) ≡ true → AreInOrder ms → AreInOrder (put k d ms) → AreInOrder (match_ordering o (member k d (member l e ms)) (member l d ms) (member l e (put k d ms)))
order-put_at Less k l d e ms is p first one rest later =
    let here : comes_before k l ≡ true = ap is_lt is in
    from3 _ (is_in_order (shape_of d)) _ (and_from (comes_before k l) (is_before k (members_shape ms)) here (is_before-trans k l (members_shape ms) here first)) p
    (from3 (is_before l (members_shape ms)) (is_in_order (shape_of e)) (pairs_are_in_order (members_shape ms)) first one rest)
order-put_at Equal k l d e ms is p first one rest later = from3 (is_before l (members_shape ms)) (is_in_order (shape_of d)) (pairs_are_in_order (members_shape ms)) first p rest
order-put_at Greater k l d e ms is p first one rest later =
    from3 (is_before l (members_shape (put k d ms))) (is_in_order (shape_of e)) (pairs_are_in_order (members_shape (put k d ms))) (is_before-put k l d ms (before-back k l is) first) one later

pub order-put : (k : List ℕ) (d : Data) (ms : Members) → is_in_order (shape_of d) ≡ true → AreInOrder ms → AreInOrder (put k d ms)
order-put k d no_members p q = from3 true (is_in_order (shape_of d)) true refl p refl
order-put k d (member l e ms) p q =
    let three = parts3 (is_before l (members_shape ms)) (is_in_order (shape_of e)) (pairs_are_in_order (members_shape ms)) q in
    order-put_at (slice_cmp nat_cmp k l) k l d e ms refl p three.0 three.1 three.2 (order-put k d ms p three.2)
