-- What the writers and readers of documents ask of a tree, and that maps and lists of such trees have it.
use Rattle.std.proofs.Common.{◌≡◌, ◌<◌, ◌^◌, ◌≤◌, ℕ, suc, ℤ, List, [], ◌∷◌, ◌++◌, length, append_assoc, map, Bool, true, false, not, Option, Some, None, refl, sym, subst, arith}
use Rattle.std.specs.Prelude.{◌&&◌, bytes_eq}
use Rattle.std.specs.List.{All, list_any}
use Rattle.std.proofs.lemmas.Bool.{and_from, and_parts, or_parts, not-true, not_from_false, lt-ltb}
use Rattle.std.proofs.lemmas.List.{append-nil, length-map}
use Rattle.std.proofs.lemmas.List.Elements.{All-head, All-tail, All-map}
use Rattle.doc_tree.specs.Shape.{Shape, truth, whole, text, list, mapping, Pairs, no_pairs, pair, shapes_of, pairs_of, lacks, is_distinct, shapes_are_distinct, pairs_are_distinct, levels, shapes_levels, pairs_levels, item_count, has_short_lists, shapes_have_short_lists, pairs_have_short_lists}
use Rattle.doc_tree.proofs.lemmas.Trees.{item_count-shapes_of}
use Rattle.net_model.specs.Words.{apart}
use Rattle.show_core.specs.Fields.{Fields, fields, field, field_of, fields_if, each}

-- the keys of each map differ, each list is short, and there are no more levels than this
pub record IsWritable (n : ℕ) (s : Shape) : Type 0 where
  pub distinct : is_distinct s ≡ true
  pub depth : levels s ≤ n
  pub short : has_short_lists s ≡ true

-- a string, at any level
pub text_writable : {n : ℕ} {s : List ℕ} → IsWritable (suc n) (text s)
text_writable = record { distinct = refl; depth = omega arith; short = refl }

-- a whole number, at any level
pub whole_writable : {n : ℕ} {z : ℤ} → IsWritable (suc n) (whole z)
whole_writable = record { distinct = refl; depth = omega arith; short = refl }

-- a boolean, at any level
pub truth_writable : {n : ℕ} {b : Bool} → IsWritable (suc n) (truth b)
truth_writable = record { distinct = refl; depth = omega arith; short = refl }

-- ---- maps

-- pairs of writable trees under some of these keys, each key once where the keys differ
pub record HasKeys (n : ℕ) (ks : List (List ℕ)) (ps : Pairs) : Type 0 where
  pub lacked : (k : List ℕ) → list_any (bytes_eq k) ks ≡ false → lacks k ps ≡ true
  pub distinct : apart bytes_eq ks ≡ true → pairs_are_distinct ps ≡ true
  pub depth : pairs_levels ps ≤ n
  pub short : pairs_have_short_lists ps ≡ true

-- no pairs, under no keys
pub none : {n : ℕ} → HasKeys n [] no_pairs
none = record { lacked = λ k other. refl; distinct = λ differ. refl; depth = omega arith; short = refl }

-- the same pairs, with a key that none of them has to have
pub skip : {n : ℕ} {k : List ℕ} {ks : List (List ℕ)} {ps : Pairs} → HasKeys n ks ps → HasKeys n (k ∷ ks) ps
skip {k} {ks} rest = record {
  lacked = λ j other. rest.lacked j (or_parts (bytes_eq j k) (list_any (bytes_eq j) ks) other).1;
  distinct = λ differ. rest.distinct (and_parts (not (list_any (bytes_eq k) ks)) (apart bytes_eq ks) differ).1;
  depth = rest.depth;
  short = rest.short;
}

-- one more pair, before the others
pub one : {n : ℕ} {k : List ℕ} {s : Shape} {ks : List (List ℕ)} {ps : Pairs} → IsWritable n s → HasKeys n ks ps → HasKeys n (k ∷ ks) (pair k s ps)
one {k} {s} {ks} {ps} is rest = record {
  lacked = λ j other.
      let parts = or_parts (bytes_eq j k) (list_any (bytes_eq j) ks) other in
      and_from (not (bytes_eq j k)) (lacks j ps) (not_from_false (bytes_eq j k) parts.0) (rest.lacked j parts.1);
  distinct = λ differ.
      let parts = and_parts (not (list_any (bytes_eq k) ks)) (apart bytes_eq ks) differ in
      let new = rest.lacked k (not-true (list_any (bytes_eq k) ks) parts.0) in
      and_from (lacks k ps && is_distinct s) (pairs_are_distinct ps) (and_from (lacks k ps) (is_distinct s) new is.distinct) (rest.distinct parts.1);
  depth = omega (arith, is.depth, rest.depth);
  short = and_from (has_short_lists s) (pairs_have_short_lists ps) is.short rest.short;
}

-- a map of such pairs, where the keys differ
pub map_writable : {n : ℕ} {ks : List (List ℕ)} {ps : Pairs} → HasKeys n ks ps → apart bytes_eq ks ≡ true → IsWritable (suc n) (mapping ps)
map_writable has differ = record { distinct = has.distinct differ; depth = omega (arith, has.depth); short = has.short }

-- ---- maps with pairs that may be left out

-- pairs under some of these keys, before whatever pairs follow them
pub record AddsKeys (n : ℕ) (ks : List (List ℕ)) (fs : Fields) : Type 0 where
  pub before : (ls : List (List ℕ)) (gs : Fields) → HasKeys n ls (pairs_of gs) → HasKeys n (ks ++ ls) (pairs_of (fs ++ gs))

-- a pair
pub key : {n : ℕ} {s : Shape} (k : List ℕ) → IsWritable n s → AddsKeys n (k ∷ []) (field k s)
key k is = record { before = λ ls gs rest. one is rest }

-- a pair where there is something, else none
pub key_of : {X : Type 0} {n : ℕ} (k : List ℕ) (tree : X → Shape) (o : Option X) → ((x : X) → IsWritable n (tree x)) → AddsKeys n (k ∷ []) (field_of k tree o)
key_of k tree None is = record { before = λ ls gs rest. skip rest }
key_of k tree (Some x) is = record { before = λ ls gs rest. one (is x) rest }

skip_all : {n : ℕ} {ps : Pairs} (ks ls : List (List ℕ)) → HasKeys n ls ps → HasKeys n (ks ++ ls) ps
skip_all [] ls rest = rest
skip_all (k ∷ ks) ls rest = skip (skip_all ks ls rest)

-- pairs where the test is true, else none
pub keys_if : {n : ℕ} {ks : List (List ℕ)} {fs : Fields} (b : Bool) → AddsKeys n ks fs → AddsKeys n ks (fields_if b fs)
keys_if true adds = adds
keys_if {ks} false adds = record { before = λ ls gs rest. skip_all ks ls rest }

-- pairs, and then more of them
pub keys_then : {n : ℕ} {ks ls : List (List ℕ)} {fs gs : Fields} → AddsKeys n ks fs → AddsKeys n ls gs → AddsKeys n (ks ++ ls) (fs ++ gs)
keys_then {n} {ks} {ls} {fs} {gs} first next = record {
  before = λ ms hs rest.
      let both = first.before (ls ++ ms) (gs ++ hs) (next.before ms hs rest) in
      subst (λ (qs : List (List ℕ)). HasKeys n qs (pairs_of ((fs ++ gs) ++ hs))) (sym (append_assoc ks ls ms))
      (subst (λ (is : Fields). HasKeys n (ks ++ (ls ++ ms)) (pairs_of is)) (sym (append_assoc fs gs hs)) both);
}

-- a map of such pairs and no others, where the keys differ
pub fields_writable : {n : ℕ} {ks : List (List ℕ)} {fs : Fields} → AddsKeys n ks fs → apart bytes_eq ks ≡ true → IsWritable (suc n) (fields fs)
fields_writable {n} {ks} {fs} adds differ =
    let has = subst (λ (is : Fields). HasKeys n (ks ++ []) (pairs_of is)) (append-nil fs) (adds.before [] [] none) in
    map_writable (subst (λ (qs : List (List ℕ)). HasKeys n qs (pairs_of fs)) (append-nil ks) has) differ

-- ---- lists

-- as short as each list of a tree has to be
abbrev pub IsShort : {X : Type 0} → List X → Type 0
IsShort xs = length xs < 2 ^ 31

items_writable : (n : ℕ) (ss : List Shape) → All (IsWritable n) ss → (shapes_are_distinct (shapes_of ss) ≡ true) × (shapes_levels (shapes_of ss) ≤ n) × (shapes_have_short_lists (shapes_of ss) ≡ true)
items_writable n [] all = (refl, omega arith, refl)
items_writable n (s ∷ ss) all =
    let first = All-head (IsWritable n) s ss all in
    let rest = items_writable n ss (All-tail (IsWritable n) s ss all) in
    (and_from (is_distinct s) (shapes_are_distinct (shapes_of ss)) first.distinct rest.0, omega (arith, first.depth, rest.1), and_from (has_short_lists s) (shapes_have_short_lists (shapes_of ss)) first.short rest.2)

-- a short list of writable trees
pub trees_writable : (n : ℕ) (ss : List Shape) → IsShort ss → All (IsWritable n) ss → IsWritable (suc n) (list (shapes_of ss))
trees_writable n ss few all =
    let parts = items_writable n ss all in
    let count = lt-ltb (item_count (shapes_of ss)) (2 ^ 31) (omega (arith, item_count-shapes_of ss, few)) in
    record { distinct = parts.0; depth = omega (arith, parts.1); short = and_from _ (shapes_have_short_lists (shapes_of ss)) count parts.2 }

-- a short list of which each item's tree is writable
pub list_writable : {X : Type 0} (n : ℕ) (tree : X → Shape) (xs : List X) → IsShort xs → All (λ x. IsWritable n (tree x)) xs → IsWritable (suc n) (each tree xs)
list_writable n tree xs few all = trees_writable n (map tree xs) (omega (arith, length-map xs tree, few)) (All-map (IsWritable n) tree xs all)

-- a short list of whatever items, where the tree of any item is writable
pub each_writable : {X : Type 0} (n : ℕ) (tree : X → Shape) (xs : List X) → IsShort xs → ((x : X) → IsWritable n (tree x)) → IsWritable (suc n) (each tree xs)
each_writable n tree xs few is = list_writable n tree xs few (λ i d lt. is _)
