-- Lists of marks.
use Rattle.std.proofs.Common.{◌≡◌, ◌≢◌, ℕ, ◌+◌, ◌<◌, Bool, true, false, List, [], ◌∷◌, length, get_or, set, zero, suc, refl, sym, ap, ◌∙◌, arith, get_or-set_same, get_or-set_other, ◌⊎◌, inl, inr}
use Rattle.reach.specs.Reach.{is_marked, unmarked, Within}

pub unmarked-set : (ms : List Bool) (i : ℕ) → i < length ms → is_marked ms i ≡ false → unmarked (set ms i true) + 1 ≡ unmarked ms
unmarked-set [] i h m = absurd (omega arith)
unmarked-set (true ∷ ms) zero h m = absurd cc
unmarked-set (false ∷ ms) zero h m = omega arith
unmarked-set (true ∷ ms) (suc i) h m = unmarked-set ms i (omega arith) m
unmarked-set (false ∷ ms) (suc i) h m = omega (arith, unmarked-set ms i (omega arith) m)

same_or_not : (i j : ℕ) → (i ≡ j) ⊎ (i ≢ j)
same_or_not i j = grind arith

pub marked-set_same : (ms : List Bool) (i : ℕ) → i < length ms → is_marked (set ms i true) i ≡ true
marked-set_same ms i h = rw get_or-set_same

-- what was marked stays so
pub marked-set : (ms : List Bool) (i j : ℕ) → i < length ms → is_marked ms j ≡ true → is_marked (set ms i true) j ≡ true
marked-set ms i j h m = elim (same_or_not j i) [
  | inl e ↦ ap (is_marked (set ms i true)) e ∙ marked-set_same ms i h
  | inr ne ↦ rw get_or-set_other m
]

-- and what is marked now was marked or is the new one
pub marked-before : (ms : List Bool) (i j : ℕ) → i < length ms → is_marked (set ms i true) j ≡ true → (i ≡ j) ⊎ (is_marked ms j ≡ true)
marked-before ms i j h m = elim (same_or_not j i) [
  | inl e ↦ inl (sym e)
  | inr ne ↦ inr (rw get_or-set_other at m)
]

pub Within-set : (ms : List Bool) (i : ℕ) (t : ℕ → Bool) → i < length ms → t i ≡ true → Within (is_marked ms) t → Within (is_marked (set ms i true)) t
Within-set ms i t h here w j m = elim (marked-before ms i j h m) [
  | inl e ↦ ap t (sym e) ∙ here
  | inr old ↦ w j old
]

pub any_default : {X : Type 0} (xs : List X) (i : ℕ) (d e : X) → i < length xs → get_or xs i d ≡ get_or xs i e
any_default [] i d e h = absurd (omega arith)
any_default (x ∷ xs) zero d e h = refl
any_default (x ∷ xs) (suc i) d e h = any_default xs i d e (omega arith)

-- marking what is marked changes nothing
pub set_marked : (ms : List Bool) (i : ℕ) → is_marked ms i ≡ true → set ms i true ≡ ms
set_marked [] i h = absurd cc
set_marked (m ∷ ms) zero h = ap (λ b. b ∷ ms) (sym h)
set_marked (m ∷ ms) (suc i) h = ap (λ bs. m ∷ bs) (set_marked ms i h)
