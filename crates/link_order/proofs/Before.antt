-- Whether a name has a place among the first so many.
use Rattle.std.proofs.Common.{◌≡◌, ℕ, ◌+◌, zero, suc, Bool, true, false, not, ◌&&◌, ◌||◌, cond, List, [], ◌∷◌, map, length, take, Some, None, nat_lt, refl, sym, ap, ◌∙◌, arith}
use Rattle.std.specs.List.{position, position_or_len, list_any}
use Rattle.std.specs.Option.{unwrap_or}
use Rattle.std.proofs.lemmas.Bool.Decides.{nat_tests}
use Rattle.std.proofs.lemmas.List.{length-map}
use Rattle.link_order.proofs.lemmas.Placed.{same_place}

never : (n : ℕ) (b : Bool) → (nat_lt n 0 && b) ≡ false
never n b = grind (arith, nat_tests)

no_more : (b : Bool) → (b && false) ≡ false
no_more true = refl
no_more false = refl

none_in : (n : ℕ) → false ≡ (nat_lt 0 n && nat_lt 0 0)
none_in n = grind (arith, nat_tests)

first_in : (n m : ℕ) → true ≡ (nat_lt 0 (suc n) && nat_lt 0 (suc m))
first_in n m = grind (arith, nat_tests)

one_more : (m n : ℕ) → nat_lt (1 + m) (suc n) ≡ nat_lt m n
one_more m n = grind (arith, nat_tests)

-- some of the first so many passes: the first that passes is one of them
some_before : {X : Type 0} (p : X → Bool) (xs : List X) (n : ℕ) → list_any p (take n xs) ≡ (nat_lt (position_or_len p xs) n && nat_lt (position_or_len p xs) (length xs))
some_before p [] zero = none_in zero
some_before p [] (suc n) = none_in (suc n)
some_before p (x ∷ xs) zero = sym (never (position_or_len p (x ∷ xs)) (nat_lt (position_or_len p (x ∷ xs)) (length (x ∷ xs))))
some_before p (x ∷ xs) (suc n) = elim (p x) as (λ v. (v || list_any p (take n xs)) ≡ (nat_lt (cond (not v) (1 + position_or_len p xs) 0) (suc n) && nat_lt (cond (not v) (1 + position_or_len p xs) 0) (suc (length xs)))) [
  | true ↦ first_in n (length xs)
  | false ↦ some_before p xs n
      ∙ ap (λ b. b && nat_lt (position_or_len p xs) (length xs)) (sym (one_more (position_or_len p xs) n))
      ∙ ap (λ b. nat_lt (1 + position_or_len p xs) (suc n) && b) (sym (one_more (position_or_len p xs) (length xs)))
]

-- the name at this place is among the first so many
pub placed_before : {X Y : Type 0} (f : X → Y) (q : Y → Bool) (xs : List X) (i n : ℕ) → position q (map f xs) ≡ Some i → list_any (λ x. q (f x)) (take n xs) ≡ nat_lt i n
placed_before f q xs i n at = some_before (λ x. q (f x)) xs n ∙ by (nat_lt (position_or_len (λ x. q (f x)) xs) (length xs)) mapped
  where
    mapped : cond (nat_lt (position_or_len (λ x. q (f x)) xs) (length xs)) (Some (position_or_len (λ x. q (f x)) xs)) None ≡ Some i
    mapped = rw (← same_place f q xs, ← length-map xs f) at

    and_true : (b : Bool) → (b && true) ≡ b
    and_true true = refl
    and_true false = refl

    by : (v : Bool) → cond v (Some (position_or_len (λ x. q (f x)) xs)) None ≡ Some i → (nat_lt (position_or_len (λ x. q (f x)) xs) n && v) ≡ nat_lt i n
    by true e = and_true (nat_lt (position_or_len (λ x. q (f x)) xs) n) ∙ ap (λ o. nat_lt (unwrap_or o i) n) e
    by false e = absurd cc

-- a name without a place isn't
pub unplaced_before : {X Y : Type 0} (f : X → Y) (q : Y → Bool) (xs : List X) (n : ℕ) → position q (map f xs) ≡ None → list_any (λ x. q (f x)) (take n xs) ≡ false
unplaced_before f q xs n at = some_before (λ x. q (f x)) xs n ∙ by (nat_lt (position_or_len (λ x. q (f x)) xs) (length xs)) mapped
  where
    mapped : cond (nat_lt (position_or_len (λ x. q (f x)) xs) (length xs)) (Some (position_or_len (λ x. q (f x)) xs)) None ≡ None
    mapped = rw (← same_place f q xs, ← length-map xs f) at

    by : (v : Bool) → cond v (Some (position_or_len (λ x. q (f x)) xs)) None ≡ None → (nat_lt (position_or_len (λ x. q (f x)) xs) n && v) ≡ false
    by true e = absurd cc
    by false e = no_more (nat_lt (position_or_len (λ x. q (f x)) xs) n)
