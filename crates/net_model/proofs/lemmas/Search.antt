-- What binary search finds in a list of which no two members are the same, by a test that takes the member first.
use Rattle.std.proofs.Common.{◌≡◌, ℕ, ◌<◌, ◌≤◌, ◌⊎◌, inl, inr, zero, suc, Bool, true, false, not, List, [], ◌∷◌, length, get_or, cond, Some, None, refl, sym, ap, ◌∙◌, arith, Ordering, Less, Equal, Greater}
use Rattle.std.specs.List.{list_any, find}
use Rattle.std.specs.List.Sorted.{IsPartitionPoint}
use Rattle.std.specs.Ordering.{is_eq, ordering_reverse}
use Rattle.std.specs.Cmp.{IsTotalOrder}
use Rattle.net_model.specs.Words.{apart}
use Rattle.net_model.proofs.lemmas.Truth.{and_left, and_right, not_true}
use Rattle.net_model.proofs.lemmas.Places.{any_at}

eq_equal : (r : Ordering) → is_eq r ≡ true → r ≡ Equal
eq_equal Less h = cc
eq_equal Equal h = refl
eq_equal Greater h = cc

before_or_after : (j k : ℕ) → (j < k) ⊎ (k ≤ j)
before_or_after j k = grind arith

-- a test E that an order R ties, and the one k that is looked for
module _ {X : Type 0} (E : X → X → Bool) (R : X → X → Ordering) (total : IsTotalOrder R) (tie : (x y : X) → E x y ≡ is_eq (R x y)) (k : X) where
  equal_passes : (x : X) → R x k ≡ Equal → E x k ≡ true
  equal_passes x e = tie x k ∙ ap is_eq e

  passes_equal : (x : X) → E x k ≡ true → R x k ≡ Equal
  passes_equal x h = eq_equal (R x k) (sym (tie x k) ∙ h)

  -- two that are equal to the third are equal
  both_equal : (x y : X) → E x k ≡ true → R y k ≡ Equal → E x y ≡ true
  both_equal x y h e =
      let across : R x y ≡ R k y = total.congr x k y (passes_equal x h) in
      let turned : R k y ≡ Equal = total.antisymm k y ∙ ap ordering_reverse e in
      tie x y ∙ ap is_eq (across ∙ turned)

  -- what is met is the first that passes
  pub found_first : (xs : List X) (i : ℕ) (d : X) → apart E xs ≡ true → i < length xs → R (get_or xs i d) k ≡ Equal → Some (get_or xs i d) ≡ find (λ x. E x k) xs
  found_first [] i d differ lt e = absurd (omega arith)
  found_first (x ∷ xs) zero d differ lt e = rw (equal_passes x e) refl
  found_first (x ∷ xs) (suc i) d differ lt e =
      let none : list_any (E x) xs ≡ false = not_true (list_any (E x) xs) (and_left (not (list_any (E x) xs)) (apart E xs) differ) in
      let rest : Some (get_or xs i d) ≡ find (λ y. E y k) xs = found_first xs i d (and_right (not (list_any (E x) xs)) (apart E xs) differ) (omega arith) e in
      elim (E x k) as (λ v. E x k ≡ v → Some (get_or xs i d) ≡ cond v (Some x) (find (λ y. E y k) xs)) [
        | true ↦ λ h. let wrong : true ≡ false = sym (any_at (E x) xs i d (omega arith) (both_equal x (get_or xs i d) h e)) ∙ none in cc
        | false ↦ λ h. rest
      ] refl

  none_equal : (xs : List X) → ((j : ℕ) (d : X) → j < length xs → R (get_or xs j d) k ≡ Equal → ⊥) → find (λ x. E x k) xs ≡ None
  none_equal [] h = refl
  none_equal (x ∷ xs) h =
      elim (E x k) as (λ v. E x k ≡ v → cond v (Some x) (find (λ y. E y k) xs) ≡ None) [
        | true ↦ λ e. absurd (h 0 x (omega arith) (passes_equal x e))
        | false ↦ λ _. none_equal xs (λ j d lt e. h (suc j) d (omega arith) e)
      ] refl

  -- where the list parts into what is before and what is after, nothing passes
  pub none_found : (xs : List X) (i : ℕ) → IsPartitionPoint (λ x. R x k ≡ Less) (λ x. R x k ≡ Greater) xs i → find (λ x. E x k) xs ≡ None
  none_found xs i parted =
      none_equal xs (λ j d lt e. elim (before_or_after j i) [
        | inl low ↦ let no : Less ≡ Equal = sym (parted.0 j d (omega arith) low) ∙ e in absurd cc
        | inr high ↦ let no : Greater ≡ Equal = sym (parted.1 j d high lt) ∙ e in absurd cc
      ])
