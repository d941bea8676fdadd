-- What is found by name, by its place among the names.
use Rattle.std.proofs.Common.{◌≡◌, ℕ, ◌<◌, ◌≤◌, zero, suc, Bool, true, false, cond, List, [], ◌∷◌, map, length, get_or, Some, None, refl, sym, ap, ◌∙◌, arith, nat_lt}
use Rattle.std.specs.List.{find, position, position_or_len}
use Rattle.std.proofs.lemmas.List.{get_or-map, length-map}
use Rattle.std.proofs.lemmas.List.Quantifiers.{position-Some}
use Rattle.std.proofs.lemmas.List.Folds.{find_at}
use Rattle.std.proofs.lemmas.Option.{slice_get_past}
use Rattle.std.proofs.lemmas.Bool.Decides.{nat_tests}

-- the first that passes is the one that is found
pub find_first : {X : Type 0} (p : X → Bool) (xs : List X) (i : ℕ) (d : X) → i < length xs → p (get_or xs i d) ≡ true → ((k : ℕ) → k < i → p (get_or xs k d) ≡ false) → find p xs ≡ Some (get_or xs i d)
find_first p [] i d lt here before = absurd (omega arith)
find_first p (x ∷ xs) zero d lt here before = rw here refl
find_first p (x ∷ xs) (suc i) d lt here before =
    rw (before 0 (omega arith)) (find_first p xs i d (omega arith) here (λ k below. before (suc k) (omega arith)))

pub placed : {X Y : Type 0} (f : X → Y) (q : Y → Bool) (xs : List X) (i : ℕ) (x : X) (e : Y) → position q (map f xs) ≡ Some i → x ≡ get_or xs i x → Some x ≡ find (λ y. q (f y)) xs
placed f q xs i x e at is =
    let s = position-Some q (map f xs) i e at in
    let inside : i < length xs = omega (arith, s.0, length-map xs f) in
    ap Some is ∙ sym (find_first (λ y. q (f y)) xs i x inside
    (ap q (sym (get_or-map f xs i x e inside)) ∙ s.1)
    (λ k below. ap q (sym (get_or-map f xs k x e (omega (arith, below, inside)))) ∙ s.2 k below))

-- the same place whether names or what they name are looked at
pub same_place : {X Y : Type 0} (f : X → Y) (q : Y → Bool) (xs : List X) → position_or_len q (map f xs) ≡ position_or_len (λ y. q (f y)) xs
same_place f q [] = refl
same_place f q (x ∷ xs) = rw (same_place f q xs) refl

-- a place that is not within
pub past : (m n : ℕ) → nat_lt m n ≡ false → n ≤ m
past m n h = grind (arith, nat_tests)

-- and where the name has no place nothing is found
pub unplaced : {X Y : Type 0} (f : X → Y) (q : Y → Bool) (xs : List X) → position q (map f xs) ≡ None → find (λ y. q (f y)) xs ≡ None
unplaced f q xs = elim (nat_lt (position_or_len q (map f xs)) (length (map f xs))) as (λ v. nat_lt (position_or_len q (map f xs)) (length (map f xs)) ≡ v → cond v (Some (position_or_len q (map f xs))) None ≡ None → find (λ y. q (f y)) xs ≡ None) [
  | true ↦ λ e h. absurd cc
  | false ↦ λ e h.
      let beyond : length (map f xs) ≤ position_or_len q (map f xs) = past (position_or_len q (map f xs)) (length (map f xs)) e in
      find_at (λ y. q (f y)) xs ∙ slice_get_past xs (position_or_len (λ y. q (f y)) xs) (omega (arith, beyond, length-map xs f, same_place f q xs))
] refl
