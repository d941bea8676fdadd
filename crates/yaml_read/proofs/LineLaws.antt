-- How many lines a text has.
use Rattle.std.proofs.Common.{ℕ, ◌+◌, ◌≤◌, Bool, true, false, cond, eqb, List, [], ◌∷◌, length, arith}
use Rattle.std.specs.List.{slice_split, onto_first}
use Rattle.std.specs.Str.Lines.{lines, lines_of_parts}

onto_count : (x : ℕ) (parts : List (List ℕ)) → length (onto_first x parts) ≤ length parts + 1
onto_count x [] = omega arith
onto_count x (p ∷ ps) = omega arith

split_count : (bs : List ℕ) → length (slice_split (λ b. eqb b 10) bs) ≤ length bs + 1
split_count [] = omega arith
split_count (x ∷ xs) = by_test (eqb x 10) (split_count xs) where
  by_test : (b : Bool) → length (slice_split (λ b. eqb b 10) xs) ≤ length xs + 1
      → length (cond b ([] ∷ slice_split (λ b. eqb b 10) xs) (onto_first x (slice_split (λ b. eqb b 10) xs))) ≤ length (x ∷ xs) + 1
  by_test true le = omega arith
  by_test false le = omega (arith, onto_count x (slice_split (λ b. eqb b 10) xs))

last_count : (b : Bool) (x : List ℕ) → length (cond {A = List (List ℕ)} b [] (x ∷ [])) ≤ 1
last_count true x = omega arith
last_count false x = omega arith

parts_count : (parts : List (List ℕ)) → length (lines_of_parts parts) ≤ length parts
parts_count [] = omega arith
parts_count (x ∷ []) = last_count (eqb (length x) 0) x
parts_count (x ∷ y ∷ more) = omega (arith, parts_count (y ∷ more))

pub lines_count : (bs : List ℕ) → length (lines bs) ≤ length bs + 1
lines_count bs = omega (arith, parts_count (slice_split (λ b. eqb b 10) bs), split_count bs)
