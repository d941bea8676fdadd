-- A tree whose maps are brought into the order of their keys is the same but for the order of keys.
use Rattle.std.proofs.Common.{◌≡◌, ◌∙◌, ℕ, List, Bool, true, false, not, refl, sym, ap, subst}
use Rattle.std.specs.Prelude.{bytes_eq, ◌&&◌}
use Rattle.std.proofs.lemmas.Bool.{and_parts, false≢true}
use Rattle.doc_tree.specs.Shape.{Shape, nothing, truth, whole, text, list, mapping, Shapes, no_shapes, more, Pairs, no_pairs, pair, lacks, is_distinct, shapes_are_distinct, pairs_are_distinct}
use Rattle.doc_tree.specs.Order.{comes_before, insert, in_order, shapes_in_order, pairs_onto}
use Rattle.order_laws.specs.Reordered.{IsReordered, same, lists, maps, AreReordered, no_items, items, ArePermuted, no_keys, keys, swapped, chained}
use Rattle.order_laws.proofs.Keys.{turned}

not_true : (b : Bool) → not b ≡ true → b ≡ false
not_true true h = absurd (false≢true h)
not_true false h = refl

permuted_same : (ps : Pairs) → ArePermuted ps ps
permuted_same no_pairs = no_keys
permuted_same (pair k s ps) = keys k s s ps ps (same s) (permuted_same ps)

-- ---- a pair that goes to its place

insert_first : (k l : List ℕ) (s t : Shape) (ps : Pairs) → comes_before k l ≡ true → insert k s (pair l t ps) ≡ pair k s (pair l t ps)
insert_first k l s t ps h = rw h refl

insert_later : (k l : List ℕ) (s t : Shape) (ps : Pairs) → comes_before k l ≡ false → insert k s (pair l t ps) ≡ pair l t (insert k s ps)
insert_later k l s t ps h = rw h refl

inserted_at : (k l : List ℕ) (s t : Shape) (ps : Pairs) (b : Bool) → comes_before k l ≡ b → bytes_eq k l ≡ false → ArePermuted (pair k s ps) (insert k s ps) → ArePermuted (pair k s (pair l t ps)) (insert k s (pair l t ps))
inserted_at k l s t ps true is differ later = subst (ArePermuted (pair k s (pair l t ps))) (sym (insert_first k l s t ps is)) (permuted_same (pair k s (pair l t ps)))
inserted_at k l s t ps false is differ later =
    subst (ArePermuted (pair k s (pair l t ps))) (sym (insert_later k l s t ps is))
    (chained (pair k s (pair l t ps)) (pair l t (pair k s ps)) (pair l t (insert k s ps)) (swapped k l s t ps differ) (keys l t t (pair k s ps) (insert k s ps) (same t) later))

inserted : (k : List ℕ) (s : Shape) (ps : Pairs) → lacks k ps ≡ true → ArePermuted (pair k s ps) (insert k s ps)
inserted k s no_pairs h = permuted_same (pair k s no_pairs)
inserted k s (pair l t ps) h =
    let parts = and_parts (not (bytes_eq k l)) (lacks k ps) h in
    inserted_at k l s t ps (comes_before k l) refl (not_true (bytes_eq k l) parts.0) (inserted k s ps parts.1)

lacks_inserted_at : (m k l : List ℕ) (s t : Shape) (ps : Pairs) (b : Bool) → comes_before k l ≡ b → bytes_eq m k ≡ false → not (bytes_eq m l) ≡ true → lacks m ps ≡ true → lacks m (insert k s ps) ≡ true → lacks m (insert k s (pair l t ps)) ≡ true
lacks_inserted_at m k l s t ps true is differ here rest later = ap (lacks m) (insert_first k l s t ps is) ∙ (rw (differ, here, rest) refl)
lacks_inserted_at m k l s t ps false is differ here rest later = ap (lacks m) (insert_later k l s t ps is) ∙ (rw (here, later) refl)

lacks_inserted : (m k : List ℕ) (s : Shape) (ps : Pairs) → bytes_eq m k ≡ false → lacks m ps ≡ true → lacks m (insert k s ps) ≡ true
lacks_inserted m k s no_pairs differ h = rw differ refl
lacks_inserted m k s (pair l t ps) differ h =
    let parts = and_parts (not (bytes_eq m l)) (lacks m ps) h in
    lacks_inserted_at m k l s t ps (comes_before k l) refl differ parts.0 parts.1 (lacks_inserted m k s ps differ parts.1)

-- ---- pairs before others

abbrev joined : Pairs → Pairs → Pairs
joined no_pairs qs = qs
joined (pair k s ps) qs = pair k s (joined ps qs)

joined_none : (ps : Pairs) → joined ps no_pairs ≡ ps
joined_none no_pairs = refl
joined_none (pair k s ps) = ap (pair k s) (joined_none ps)

joined_permuted : (ps qs rs : Pairs) → ArePermuted qs rs → ArePermuted (joined ps qs) (joined ps rs)
joined_permuted no_pairs qs rs r = r
joined_permuted (pair k s ps) qs rs r = keys k s s (joined ps qs) (joined ps rs) (same s) (joined_permuted ps qs rs r)

-- a pair goes behind others
behind : (k : List ℕ) (s : Shape) (ps qs : Pairs) → lacks k ps ≡ true → ArePermuted (pair k s (joined ps qs)) (joined ps (pair k s qs))
behind k s no_pairs qs h = permuted_same (pair k s qs)
behind k s (pair l t ps) qs h =
    let parts = and_parts (not (bytes_eq k l)) (lacks k ps) h in
    chained (pair k s (pair l t (joined ps qs))) (pair l t (pair k s (joined ps qs))) (pair l t (joined ps (pair k s qs)))
    (swapped k l s t (joined ps qs) (not_true (bytes_eq k l) parts.0)) (keys l t t (pair k s (joined ps qs)) (joined ps (pair k s qs)) (same t) (behind k s ps qs parts.1))

-- no key of the one among the others
abbrev are_apart : Pairs → Pairs → Bool
are_apart no_pairs qs = true
are_apart (pair k s ps) qs = lacks k qs && are_apart ps qs

apart_none : (ps : Pairs) → are_apart ps no_pairs ≡ true
apart_none no_pairs = refl
apart_none (pair k s ps) = apart_none ps

apart_inserted : (k : List ℕ) (s : Shape) (ps qs : Pairs) → lacks k ps ≡ true → are_apart ps qs ≡ true → are_apart ps (insert k s qs) ≡ true
apart_inserted k s no_pairs qs h apart = refl
apart_inserted k s (pair l t ps) qs h apart =
    let parts = and_parts (not (bytes_eq k l)) (lacks k ps) h in
    let rest = and_parts (lacks l qs) (are_apart ps qs) apart in
    let here : lacks l (insert k s qs) ≡ true = lacks_inserted l k s qs (turned k l (not_true (bytes_eq k l) parts.0)) rest.0 in
    let later : are_apart ps (insert k s qs) ≡ true = apart_inserted k s ps qs parts.1 rest.1 in
    rw (here, later) refl

-- ---- the whole tree

mutual
  pub sorted : (s : Shape) → is_distinct s ≡ true → IsReordered s (in_order s)
  sorted nothing h = same nothing
  sorted (truth b) h = same (truth b)
  sorted (whole z) h = same (whole z)
  sorted (text x) h = same (text x)
  sorted (list ss) h = lists ss (shapes_in_order ss) (sorted_items ss h)
  sorted (mapping ps) h = maps ps (pairs_onto ps no_pairs) (subst (λ qs. ArePermuted qs (pairs_onto ps no_pairs)) (joined_none ps) (sorted_pairs ps no_pairs h (apart_none ps)))

  sorted_items : (ss : Shapes) → shapes_are_distinct ss ≡ true → AreReordered ss (shapes_in_order ss)
  sorted_items no_shapes h = no_items
  sorted_items (more s ss) h =
      let parts = and_parts (is_distinct s) (shapes_are_distinct ss) h in
      items s (in_order s) ss (shapes_in_order ss) (sorted s parts.0) (sorted_items ss parts.1)

  sorted_pairs : (ps placed : Pairs) → pairs_are_distinct ps ≡ true → are_apart ps placed ≡ true → ArePermuted (joined ps placed) (pairs_onto ps placed)
  sorted_pairs no_pairs placed h apart = permuted_same placed
  sorted_pairs (pair k s ps) placed h apart =
      let parts = and_parts (lacks k ps && is_distinct s) (pairs_are_distinct ps) h in
      let own = and_parts (lacks k ps) (is_distinct s) parts.0 in
      let rest = and_parts (lacks k placed) (are_apart ps placed) apart in
      chained (pair k s (joined ps placed)) (joined ps (pair k s placed)) (pairs_onto ps (insert k (in_order s) placed)) (behind k s ps placed own.0)
      (chained (joined ps (pair k s placed)) (joined ps (pair k (in_order s) placed)) (pairs_onto ps (insert k (in_order s) placed))
      (joined_permuted ps (pair k s placed) (pair k (in_order s) placed) (keys k s (in_order s) placed placed (sorted s own.1) (permuted_same placed)))
      (chained (joined ps (pair k (in_order s) placed)) (joined ps (insert k (in_order s) placed)) (pairs_onto ps (insert k (in_order s) placed))
      (joined_permuted ps (pair k (in_order s) placed) (insert k (in_order s) placed) (inserted k (in_order s) placed rest.0))
      (sorted_pairs ps (insert k (in_order s) placed) parts.1 (apart_inserted k (in_order s) ps placed own.0 rest.1))))
