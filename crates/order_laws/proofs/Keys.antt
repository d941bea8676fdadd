-- What stands under a key of two maps that differ in the order of their pairs.
use Rattle.std.proofs.Common.{◌≡◌, ◌∙◌, ℕ, List, Bool, true, false, refl, sym, subst}
use Rattle.std.specs.Prelude.{bytes_eq, if◌then◌else◌}
use Rattle.std.proofs.lemmas.Bool.{false≢true, false_from_ne_true}
use Rattle.std.proofs.lemmas.Slice.Eq.{bytes_eq-Decides}
use Rattle.doc_tree.specs.Shape.{Shape, nothing, Pairs, no_pairs, pair}
use Rattle.tree_schema.specs.Values.{is_null, is_string}
use Rattle.tree_schema.specs.Tables.{value_in, value_at, top_of}
use Rattle.tree_schema.specs.Order.{keys_differ, SameValues}
use Rattle.order_laws.specs.Reordered.{IsReordered, same, lists, maps, ArePermuted, no_keys, keys, swapped, chained}

-- ---- two keys

pub turned : (k l : List ℕ) → bytes_eq k l ≡ false → bytes_eq l k ≡ false
turned k l h = false_from_ne_true (bytes_eq l k) (λ e. false≢true (sym h ∙ (bytes_eq-Decides k l).1 (sym ((bytes_eq-Decides l k).0 e))))

pub two_differ : (k l : List ℕ) (s t : Shape) → bytes_eq k l ≡ false → keys_differ (pair k s (pair l t no_pairs)) ≡ true
two_differ k l s t h = rw h refl

found_here : (m k : List ℕ) (s : Shape) (ps : Pairs) → bytes_eq k m ≡ true → value_in m (pair k s ps) ≡ s
found_here m k s ps h = rw h refl

found_behind : (m k : List ℕ) (s : Shape) (ps : Pairs) → bytes_eq k m ≡ false → value_in m (pair k s ps) ≡ value_in m ps
found_behind m k s ps h = rw h refl

swapped_at : (m k l : List ℕ) (s t : Shape) (ps : Pairs) (b c : Bool) → bytes_eq k m ≡ b → bytes_eq l m ≡ c → bytes_eq k l ≡ false → value_in m (pair k s (pair l t ps)) ≡ value_in m (pair l t (pair k s ps))
swapped_at m k l s t ps true true at_k at_l differ = absurd (false≢true (sym differ ∙ (bytes_eq-Decides k l).1 ((bytes_eq-Decides k m).0 at_k ∙ sym ((bytes_eq-Decides l m).0 at_l))))
swapped_at m k l s t ps true false at_k at_l differ = found_here m k s (pair l t ps) at_k ∙ sym (found_behind m l t (pair k s ps) at_l ∙ found_here m k s ps at_k)
swapped_at m k l s t ps false true at_k at_l differ = found_behind m k s (pair l t ps) at_k ∙ found_here m l t ps at_l ∙ sym (found_here m l t (pair k s ps) at_l)
swapped_at m k l s t ps false false at_k at_l differ =
    found_behind m k s (pair l t ps) at_k ∙ found_behind m l t ps at_l ∙ sym (found_behind m l t (pair k s ps) at_l ∙ found_behind m k s ps at_k)

-- two neighbours that change places have the same values
pub swapped_values : (k l : List ℕ) (s t : Shape) (ps : Pairs) → bytes_eq k l ≡ false → SameValues (pair k s (pair l t ps)) (pair l t (pair k s ps))
swapped_values k l s t ps differ m = swapped_at m k l s t ps (bytes_eq k m) (bytes_eq l m) refl refl differ

-- ---- what is true of a tree and of one that differs from it in order is true of what stands under a key

module _ (P : Shape → Shape → Type 0) (itself : (s : Shape) → P s s) (follows : (s t u : Shape) → P s t → P t u → P s u) (each : (s t : Shape) → IsReordered s t → P s t) where
  by_test : (b : Bool) (s t u v : Shape) → P s t → P u v → P (if b then s else u) (if b then t else v)
  by_test true s t u v here there = here
  by_test false s t u v here there = there

  pub under : (m : List ℕ) (ps qs : Pairs) → ArePermuted ps qs → P (value_in m ps) (value_in m qs)
  under m ps qs no_keys = itself nothing
  under m ps qs (keys k s t rest others here there) = by_test (bytes_eq k m) s t (value_in m rest) (value_in m others) (each s t here) (under m rest others there)
  under m ps qs (swapped k l s t rest differ) =
      subst (P (value_in m (pair k s (pair l t rest)))) (swapped_values k l s t rest differ m) (itself (value_in m (pair k s (pair l t rest))))
  under m ps qs (chained first second third one two) = follows (value_in m first) (value_in m second) (value_in m third) (under m first second one) (under m second third two)

  pub under_key : (m : List ℕ) (s t : Shape) → IsReordered s t → P (value_at m s) (value_at m t)
  under_key m s t (same u) = itself (value_at m u)
  under_key m s t (lists ss ts r) = itself nothing
  under_key m s t (maps ps qs r) = under m ps qs r

-- ---- null, and strings

pub null_alike : (s t : Shape) → IsReordered s t → is_null s ≡ is_null t
null_alike s t (same u) = refl
null_alike s t (lists ss ts r) = refl
null_alike s t (maps ps qs r) = refl

string_alike : (test : List ℕ → Bool) (s t : Shape) → IsReordered s t → is_string test s ≡ is_string test t
string_alike test s t (same u) = refl
string_alike test s t (lists ss ts r) = refl
string_alike test s t (maps ps qs r) = refl

pub string_under : (test : List ℕ → Bool) (m : List ℕ) (s t : Shape) → IsReordered s t → is_string test (value_at m s) ≡ is_string test (value_at m t)
string_under test m s t r = under_key (λ u v. is_string test u ≡ is_string test v) (λ u. refl) (λ u v w one two. one ∙ two) (string_alike test) m s t r

pub top_alike : (s t : Shape) → IsReordered s t → IsReordered (top_of s) (top_of t)
top_alike s t (same u) = same (top_of u)
top_alike s t (lists ss ts r) = lists ss ts r
top_alike s t (maps ps qs r) = maps ps qs r
