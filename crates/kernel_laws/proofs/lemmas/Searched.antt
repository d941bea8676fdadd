-- What a binary search meets is there, and what it misses isn't.
use Rattle.std.proofs.Common.{◌≡◌, ℕ, ◌<◌, ◌≤◌, ◌⊎◌, inl, inr, zero, suc, Bool, true, false, ◌||◌, List, [], ◌∷◌, length, get_or, Ordering, Less, Equal, Greater, refl, sym, ap, ◌∙◌, arith}
use Rattle.std.specs.List.{list_any}
use Rattle.std.specs.List.Sorted.{IsPartitionPoint}
use Rattle.std.specs.Ordering.{is_eq, ordering_reverse}
use Rattle.std.specs.Cmp.{IsTotalOrder}

any_at : {X : Type 0} (p : X → Bool) (xs : List X) (i : ℕ) (d : X) → i < length xs → p (get_or xs i d) ≡ true → list_any p xs ≡ true
any_at p [] i d lt h = absurd (omega arith)
any_at p (x ∷ xs) zero d lt h = rw h refl
any_at p (x ∷ xs) (suc i) d lt h = elim (p x) as (λ v. (v || list_any p xs) ≡ true) [ true ↦ refl | false ↦ any_at p xs i d (omega arith) h ]

none_at : {X : Type 0} (p : X → Bool) (xs : List X) → ((k : ℕ) (d : X) → k < length xs → p (get_or xs k d) ≡ false) → list_any p xs ≡ false
none_at p [] h = refl
none_at p (x ∷ xs) h = rw (h 0 x (omega arith), none_at p xs (λ k d lt. h (suc k) d (omega arith))) refl

below_or_above : (k i : ℕ) → (k < i) ⊎ (i ≤ k)
below_or_above k i = grind arith

-- one that ties passes the test that says so
pub met : {X : Type 0} (R : X → Ordering) (p : X → Bool) → ((x : X) → p x ≡ is_eq (R x)) → (xs : List X) (i : ℕ) (d : X) → i < length xs → R (get_or xs i d) ≡ Equal → list_any p xs ≡ true
met R p tie xs i d lt e = any_at p xs i d lt (tie (get_or xs i d) ∙ ap is_eq e)

-- and none does where all are below or above
pub missed : {X : Type 0} (R : X → Ordering) (p : X → Bool) → ((x : X) → p x ≡ is_eq (R x)) → (xs : List X) (i : ℕ) → IsPartitionPoint (λ y. R y ≡ Less) (λ y. R y ≡ Greater) xs i → list_any p xs ≡ false
missed R p tie xs i parted =
    none_at p xs (λ k d lt. tie (get_or xs k d) ∙ elim (below_or_above k i) [
      | inl low ↦ ap is_eq (parted.0 k d (omega arith) low)
      | inr high ↦ ap is_eq (parted.1 k d high lt)
    ])

-- a tie is one both ways
pub tied_both : {X : Type 0} (R : X → X → Ordering) → IsTotalOrder R → (a b : X) → is_eq (R a b) ≡ is_eq (R b a)
tied_both R total a b = ap is_eq (total.antisymm a b) ∙ turned (R b a)
  where
    turned : (r : Ordering) → is_eq (ordering_reverse r) ≡ is_eq r
    turned Less = refl
    turned Equal = refl
    turned Greater = refl
