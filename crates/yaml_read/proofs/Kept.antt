-- What is read is distinct, has no more levels than it may, and short lists.
use Rattle.std.proofs.Common.{◌≡◌, ◌∙◌, ℕ, suc, ◌<◌, ◌≤◌, ◌^◌, Bool, true, false, not, eqb, ltb, ℤ, List, [], ◌∷◌, ◌++◌, refl, sym, ap, ap₂, subst, arith, inl, inr}
use Rattle.std.specs.Prelude.{◌&&◌, ◌||◌}
use Rattle.std.specs.Str.{bytes_eq}
use Rattle.std.proofs.lemmas.Bool.{false≢true, lt-ltb, cases_Bool, and_from, and_parts, eqb-true, eq-eqb, or_parts}
use Rattle.std.proofs.lemmas.Slice.Eq.{bytes_eq-Decides}
use Rattle.doc_tree.specs.Shape.{Shape, nothing, truth, whole, text, list, mapping, shapes_of, pairs_of, lacks, is_distinct, shapes_are_distinct, pairs_are_distinct, levels, shapes_levels, pairs_levels, item_count, has_short_lists, shapes_have_short_lists, pairs_have_short_lists}
use Rattle.yaml_plain.specs.Bytes.{is_same}
use Rattle.yaml_read.specs.Keys.{is_among}

-- a tree of at most so many levels, whose maps have distinct keys, and whose lists are short
pub record Kept (n : ℕ) (t : Shape) : Type 0 where
  pub distinct : is_distinct t ≡ true
  pub depth : levels t ≤ n
  pub short : has_short_lists t ≡ true

-- trees of at most so many levels, and how many there are
pub record AllKept (n count : ℕ) (ts : List Shape) : Type 0 where
  pub distinct : shapes_are_distinct (shapes_of ts) ≡ true
  pub depth : shapes_levels (shapes_of ts) ≤ n
  pub short : shapes_have_short_lists (shapes_of ts) ≡ true
  pub count_is : item_count (shapes_of ts) ≤ count

-- none of the pairs has one of these keys
abbrev pub Fresh : List (List ℕ) → List (List ℕ × Shape) → Type 0
Fresh keys [] = Unit {0}
Fresh keys (p ∷ ps) = (is_among p.0 keys ≡ false) × Fresh keys ps

-- pairs with new keys that differ, and values of at most so many levels
pub record PairsKept (n : ℕ) (keys : List (List ℕ)) (ps : List (List ℕ × Shape)) : Type 0 where
  pub distinct : pairs_are_distinct (pairs_of ps) ≡ true
  pub depth : pairs_levels (pairs_of ps) ≤ n
  pub short : pairs_have_short_lists (pairs_of ps) ≡ true
  pub fresh : Fresh keys ps

pub Kept-nothing : (n : ℕ) → 0 < n → Kept n nothing
Kept-nothing n some = record { distinct = refl; depth = omega arith; short = refl }

pub Kept-truth : (n : ℕ) (b : Bool) → 0 < n → Kept n (truth b)
Kept-truth n b some = record { distinct = refl; depth = omega arith; short = refl }

pub Kept-whole : (n : ℕ) (z : ℤ) → 0 < n → Kept n (whole z)
Kept-whole n z some = record { distinct = refl; depth = omega arith; short = refl }

pub Kept-text : (n : ℕ) (s : List ℕ) → 0 < n → Kept n (text s)
Kept-text n s some = record { distinct = refl; depth = omega arith; short = refl }

pub AllKept-none : (n count : ℕ) → AllKept n count []
AllKept-none n count = record { distinct = refl; depth = omega arith; short = refl; count_is = omega arith }

pub AllKept-more : (n count : ℕ) (t : Shape) (ts : List Shape) → Kept n t → AllKept n count ts → AllKept n (suc count) (t ∷ ts)
AllKept-more n count t ts first rest = record {
  distinct = and_from (is_distinct t) (shapes_are_distinct (shapes_of ts)) first.distinct rest.distinct;
  depth = omega (arith, first.depth, rest.depth);
  short = and_from (has_short_lists t) (shapes_have_short_lists (shapes_of ts)) first.short rest.short;
  count_is = omega (arith, rest.count_is);
}

pub Kept-list : (n count : ℕ) (ts : List Shape) → count < 2 ^ 31 → AllKept n count ts → Kept (suc n) (list (shapes_of ts))
Kept-list n count ts few all = record {
  distinct = all.distinct;
  depth = omega (arith, all.depth);
  short = and_from (ltb (item_count (shapes_of ts)) (2 ^ 31)) (shapes_have_short_lists (shapes_of ts)) (lt-ltb (item_count (shapes_of ts)) (2 ^ 31) (omega (arith, all.count_is))) all.short;
}

-- ---- keys
same_self : (k : List ℕ) → is_same k k ≡ true
same_self [] = refl
same_self (b ∷ bs) = and_from (eqb b b) (is_same bs bs) (eq-eqb b b refl) (same_self bs)

is_same-true : (k l : List ℕ) → is_same k l ≡ true → k ≡ l
is_same-true [] [] is = refl
is_same-true [] (b ∷ bs) is = absurd (false≢true is)
is_same-true (a ∷ xs) [] is = absurd (false≢true is)
is_same-true (a ∷ xs) (b ∷ bs) is =
    let both = and_parts (eqb a b) (is_same xs bs) is in
    ap₂ (λ (x : ℕ) (r : List ℕ). x ∷ r) (eqb-true a b both.0) (is_same-true xs bs both.1)

other_key : (k l : List ℕ) → is_same l k ≡ false → bytes_eq k l ≡ false
other_key k l other = elim (cases_Bool (bytes_eq k l)) as (λ _. bytes_eq k l ≡ false) [
  | inl same ↦
      let e : k ≡ l = (bytes_eq-Decides k l).0 same in
      let self : is_same l k ≡ true = subst (λ (x : List ℕ). is_same l x ≡ true) (sym e) (same_self l) in
      absurd (false≢true (sym other ∙ self))
  | inr not_same ↦ not_same
]

same_is : (k l : List ℕ) → is_same l k ≡ true → bytes_eq k l ≡ true
same_is k l same = (bytes_eq-Decides k l).1 (sym (is_same-true l k same))

-- two words for the same bytes
pub same_bytes : (k l : List ℕ) → bytes_eq k l ≡ is_same l k
same_bytes k l = elim (cases_Bool (is_same l k)) as (λ _. bytes_eq k l ≡ is_same l k) [
  | inl same ↦ same_is k l same ∙ sym same
  | inr other ↦ other_key k l other ∙ sym other
]

-- a key that is not among these and one more is neither
among_more : (k l : List ℕ) (keys : List (List ℕ)) → is_among l (keys ++ k ∷ []) ≡ false → (is_among l keys ≡ false) × (is_same l k ≡ false)
among_more k l [] is = (refl, (or_parts (is_same l k) false is).0)
among_more k l (q ∷ keys) is =
    let both = or_parts (is_same l q) (is_among l (keys ++ k ∷ [])) is in
    let rest = among_more k l keys both.1 in
    (rw (both.0, rest.0) refl, rest.1)

fresh_lacks : (k : List ℕ) (keys : List (List ℕ)) (ps : List (List ℕ × Shape)) → Fresh (keys ++ k ∷ []) ps → (lacks k (pairs_of ps) ≡ true) × Fresh keys ps
fresh_lacks k keys [] fresh = (refl, tt)
fresh_lacks k keys (p ∷ ps) fresh =
    let first = among_more k p.0 keys fresh.0 in
    let rest = fresh_lacks k keys ps fresh.1 in
    let other : bytes_eq k p.0 ≡ false = other_key k p.0 first.1 in
    (and_from (not (bytes_eq k p.0)) (lacks k (pairs_of ps)) (ap not other) rest.0, (first.0, rest.1))

pub PairsKept-none : (n : ℕ) (keys : List (List ℕ)) → PairsKept n keys []
PairsKept-none n keys = record { distinct = refl; depth = omega arith; short = refl; fresh = tt }

pub PairsKept-more : (n : ℕ) (keys : List (List ℕ)) (k : List ℕ) (t : Shape) (ps : List (List ℕ × Shape)) → is_among k keys ≡ false → Kept n t → PairsKept n (keys ++ k ∷ []) ps → PairsKept n keys ((k, t) ∷ ps)
PairsKept-more n keys k t ps new first rest =
    let lack = fresh_lacks k keys ps rest.fresh in
    record {
      distinct = and_from (lacks k (pairs_of ps) && is_distinct t) (pairs_are_distinct (pairs_of ps)) (and_from (lacks k (pairs_of ps)) (is_distinct t) lack.0 first.distinct) rest.distinct;
      depth = omega (arith, first.depth, rest.depth);
      short = and_from (has_short_lists t) (pairs_have_short_lists (pairs_of ps)) first.short rest.short;
      fresh = (new, lack.1);
    }

pub Kept-map : (n : ℕ) (keys : List (List ℕ)) (ps : List (List ℕ × Shape)) → PairsKept n keys ps → Kept (suc n) (mapping (pairs_of ps))
Kept-map n keys ps all = record { distinct = all.distinct; depth = omega (arith, all.depth); short = all.short }
