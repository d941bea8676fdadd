-- A text cut at the first sign, and a text joined again.
use Rattle.std.proofs.Common.{◌≡◌, ℕ, ◌+◌, ◌<◌, ◌==◌, Bool, true, not, ◌&&◌, List, [], ◌∷◌, ◌++◌, Some, None, length, get_or, take, drop, refl, arith, add-one, length-append, drop-cons}
use Rattle.std.proofs.lemmas.Bool.{cond-true, lt-ltb}
use Rattle.std.proofs.lemmas.Bool.Decides.{nat_tests}
use Rattle.std.proofs.lemmas.List.{take-append-drop}
use Rattle.std.proofs.lemmas.List.Quantifiers.{position-Some}
use Rattle.std.proofs.Math.Seq.{take-append_seam, drop-append-add}
use Rattle.std.specs.List.{position, prefix_len}

-- no byte of the text is the sign
abbrev pub lacks : ℕ → List ℕ → Bool
lacks s [] = true
lacks s (x ∷ xs) = not (x == s) && lacks s xs

-- how many bytes stand before the sign
front_len : (s : ℕ) (p r : List ℕ) → lacks s p ≡ true → prefix_len (λ x. not (x == s)) (p ++ s ∷ r) ≡ length p
front_len s [] r h = grind (arith, nat_tests)
front_len s (x ∷ p) r h = grind (arith, nat_tests, front_len s p r)

whole_len : (s : ℕ) (p : List ℕ) → lacks s p ≡ true → prefix_len (λ x. not (x == s)) p ≡ length p
whole_len s [] h = refl
whole_len s (x ∷ p) h = grind (arith, nat_tests, whole_len s p)

-- the sign follows a front that lacks it
pub position-front : (s : ℕ) (p r : List ℕ) → lacks s p ≡ true → position (λ b. b == s) (p ++ s ∷ r) ≡ Some (length p)
position-front s p r h =
    let e : prefix_len (λ x. not (x == s)) (p ++ s ∷ r) ≡ length p = front_len s p r h in
    let l : length p < length (p ++ s ∷ r) = omega (arith, length-append p (s ∷ r)) in
    rw e (cond-true _ _ _ (lt-ltb (length p) (length (p ++ s ∷ r)) l))

-- a text that lacks the sign has no place of it
pub position-lacks : (s : ℕ) (p : List ℕ) → lacks s p ≡ true → position (λ b. b == s) p ≡ None
position-lacks s p h =
    let e : prefix_len (λ x. not (x == s)) p ≡ length p = whole_len s p h in
    rw e (grind (arith, nat_tests))

-- what stands before the place, the sign and what follows it are the text
pub split-at : (s : ℕ) (t : List ℕ) (i : ℕ) → position (λ b. b == s) t ≡ Some i → take i t ++ s ∷ drop (i + 1) t ≡ t
split-at s t i h =
    let f = position-Some (λ b. b == s) t i 0 h in
    let low : i < length t = f.0 in
    let e : get_or t i 0 ≡ s = grind (arith, nat_tests, f) in
    let d : drop i t ≡ s ∷ drop (i + 1) t = rw (drop-cons t i 0, e, add-one) refl in
    rw (← d) (take-append-drop i t)

-- the text cut again
pub take-front : (s : ℕ) (p r : List ℕ) → take (length p) (p ++ s ∷ r) ≡ p
take-front s p r = take-append_seam p (s ∷ r)

-- what follows the sign
pub drop-front : (s : ℕ) (p r : List ℕ) → drop (length p + 1) (p ++ s ∷ r) ≡ r
drop-front s p r = drop-append-add p (s ∷ r) 1

-- what follows two signs
pub drop-gap : (s : ℕ) (p r : List ℕ) → drop (length p + 2) (p ++ s ∷ s ∷ r) ≡ r
drop-gap s p r = drop-append-add p (s ∷ s ∷ r) 2
