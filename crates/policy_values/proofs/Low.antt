-- What is in a tree has no more levels than the tree.
use Rattle.std.proofs.Common.{◌≡◌, ◌≤◌, ℕ, zero, suc, max, Bool, true, false, cond, List, [], ◌∷◌, Option, Some, None, sym, subst, arith}
use Rattle.std.specs.Prelude.{nat_le, IfSome}
use Rattle.std.specs.Str.{bytes_eq}
use Rattle.std.proofs.lemmas.Bool.{and_parts, leb-true}
use Rattle.std.proofs.lemmas.Option.{same_Some, option_and_then_some}
use Rattle.doc_tree.specs.Shape.{Shape, nothing, truth, whole, text, list, mapping, Shapes, no_shapes, more, levels, shapes_levels}
use Rattle.doc_tree.proofs.lemmas.Trees.{levels-find}
use Rattle.policy_model.specs.Keys.{Text}
use Rattle.policy_model.specs.Reading.{place_of}
use Rattle.policy_model.specs.Leading.{item_at, is_position, step_into, led}
use Rattle.policy_model.specs.Values.{referred, place_value}
use Rattle.policy_model.specs.declared.capture.Capture.{Capture}
use Rattle.policy_values.specs.Sizes.{is_low, are_low}
use Rattle.policy_values.specs.Tables.{Table, found_in}

-- ---- where paths lead

item_low : (n : ℕ) (ss : Shapes) (t : Shape) → item_at n ss ≡ Some t → levels t ≤ shapes_levels ss
item_low n no_shapes t e = absurd cc
item_low zero (more s ss) t e = let same : s ≡ t = same_Some s t e in subst (λ u. levels u ≤ max (levels s) (shapes_levels ss)) same (omega arith)
item_low (suc n) (more s ss) t e = let low : levels t ≤ shapes_levels ss = item_low n ss t e in omega arith

position_low : (b : Bool) (n : ℕ) (ss : Shapes) (t : Shape) → cond b (item_at n ss) None ≡ Some t → levels t ≤ shapes_levels ss
position_low true n ss t e = item_low n ss t e
position_low false n ss t e = absurd cc

into_low : (k : Text) (s t : Shape) → step_into k s ≡ Some t → levels t ≤ levels s
into_low k nothing t e = absurd cc
into_low k (truth b) t e = absurd cc
into_low k (whole z) t e = absurd cc
into_low k (text s) t e = absurd cc
into_low k (list ss) t e = let low : levels t ≤ shapes_levels ss = position_low (is_position k) _ ss t e in omega arith
into_low k (mapping ps) t e = omega (arith, levels-find k ps t e)

led_low : (ks : List Text) (s t : Shape) → led ks s ≡ Some t → levels t ≤ levels s
led_low [] s t e = let same : s ≡ t = same_Some s t e in subst (λ u. levels u ≤ levels s) same (omega arith)
led_low (k ∷ ks) s t e =
    option_and_then_some (led ks) (step_into k s) t e
    (λ x is there.
    let first : levels x ≤ levels s = into_low k s x is in
    let others : levels t ≤ levels x = led_low ks x t there in
    omega arith)

-- ---- captured trees

module _ (n : ℕ) where
  own_low : (value : Option Shape) (t : Shape) → is_low n value ≡ true → value ≡ Some t → levels t ≤ n
  own_low None t low e = absurd cc
  own_low (Some s) t low e = subst (λ u. levels u ≤ n) (same_Some s t e) (leb-true (levels s) n low)

  found_low : (captures : List Capture) (table : Table) (name : Text) (t : Shape) → are_low n table ≡ true → found_in captures table name ≡ Some t → levels t ≤ n
  found_low [] table name t low e = absurd cc
  found_low (c ∷ cs) [] name t low e = absurd cc
  found_low (c ∷ cs) (value ∷ table) name t low e =
      let both = and_parts (is_low n value) (are_low n table) low in
      elim (bytes_eq c.name name) as (λ b. cond b value (found_in cs table name) ≡ Some t → levels t ≤ n) [
        | true ↦ λ own. own_low value t both.0 own
        | false ↦ λ later. found_low cs table name t both.1 later
      ] e

  place_low : (captures : List Capture) (table : Table) (inner : Text) (t : Shape) → are_low n table ≡ true → place_value (found_in captures table) inner ≡ Some t → levels t ≤ n
  place_low captures table inner t low e =
      option_and_then_some (referred (found_in captures table)) (place_of inner) t e
      (λ r is there. option_and_then_some (led r.path) (found_in captures table r.name) t there
      (λ s held leads.
      let whole : levels s ≤ n = found_low captures table r.name s low held in
      let part : levels t ≤ levels s = led_low r.path s t leads in
      omega arith))

-- what is known of all captured trees is known of what stands for a place
pub known_low : (low : Option ℕ) (captures : List Capture) (table : Table) (inner : Text) (t : Shape) → IfSome low (λ n. are_low n table ≡ true) → Some t ≡ place_value (found_in captures table) inner → IfSome low (λ n. levels t ≤ n)
known_low None captures table inner t h e = tt
known_low (Some n) captures table inner t h e = place_low n captures table inner t h (sym e)
