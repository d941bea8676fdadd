-- The first item to which an earlier one is related, one item at a time.
use Rattle.std.proofs.Common.{◌≡◌, ℕ, ◌+◌, ◌<◌, Bool, true, false, ◌||◌, List, [], ◌∷◌, ◌++◌, length, get_or, take, drop, Some, refl, ◌∙◌, add-one}
use Rattle.std.specs.List.{list_any}
use Rattle.std.proofs.Math.Seq.{take-suc, drop-cons}
use Rattle.merge_model.specs.Places.{first_second}

-- the items of a list in front of those seen, the last of them first
abbrev pub seen_so_far : {X : Type 0} → List X → List X → List X
seen_so_far seen [] = seen
seen_so_far seen (x ∷ xs) = seen_so_far (x ∷ seen) xs

or_swap : (a b c : Bool) → (a || (b || c)) ≡ (b || (a || c))
or_swap true true c = refl
or_swap true false c = refl
or_swap false b c = refl

-- the same pass whatever the order
any_seen : {X : Type 0} (p : X → Bool) (seen xs : List X) → list_any p (seen_so_far seen xs) ≡ (list_any p xs || list_any p seen)
any_seen p seen [] = refl
any_seen p seen (x ∷ xs) = any_seen p (x ∷ seen) xs ∙ or_swap (list_any p xs) (p x) (list_any p seen) ∙ or_in (p x) (list_any p xs) (list_any p seen)
  where
    or_in : (a b c : Bool) → (a || (b || c)) ≡ ((a || b) || c)
    or_in true b c = refl
    or_in false b c = refl

or_false : (b : Bool) → (b || false) ≡ b
or_false true = refl
or_false false = refl

-- whether one of the items seen passes
pub any_so_far : {X : Type 0} (p : X → Bool) (xs : List X) → list_any p (seen_so_far [] xs) ≡ list_any p xs
any_so_far p xs = any_seen p [] xs ∙ or_false (list_any p xs)

seen_more : {X : Type 0} (seen xs : List X) (x : X) → seen_so_far seen (xs ++ x ∷ []) ≡ x ∷ seen_so_far seen xs
seen_more seen [] x = refl
seen_more seen (y ∷ ys) x = seen_more (y ∷ seen) ys x

-- where no earlier item is related to item i, the search goes on after it
pub second_later : {X : Type 0} (R : X → X → Bool) (xs : List X) (i : ℕ) (x : X) → i < length xs → x ≡ get_or xs i x → list_any (λ s. R s x) (take i xs) ≡ false → first_second R (seen_so_far [] (take (i + 1) xs)) (drop (i + 1) xs) ≡ first_second R (seen_so_far [] (take i xs)) (drop i xs)
second_later R xs i x lt is none =
    rw (add-one, take-suc xs i x lt, drop-cons xs i x lt, ← is, seen_more [] (take i xs) x, any_so_far (λ s. R s x) (take i xs), none) refl

-- else item i is what is found
pub second_here : {X : Type 0} (R : X → X → Bool) (xs : List X) (i : ℕ) (x : X) → i < length xs → x ≡ get_or xs i x → list_any (λ s. R s x) (take i xs) ≡ true → first_second R (seen_so_far [] (take i xs)) (drop i xs) ≡ Some x
second_here R xs i x lt is some =
    rw (drop-cons xs i x lt, ← is, any_so_far (λ s. R s x) (take i xs), some) refl
