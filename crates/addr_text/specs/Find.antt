-- Where two colons stand first, and what follows from a place.
use Rattle.std.specs.Prelude.{ℕ, Bool, false, ◌&&◌, ◌==◌, List, [], ◌∷◌, Option, Some, None, cond, suc}
use Rattle.std.specs.Option.{option_map}

abbrev pub begins_with : ℕ → List ℕ → Bool
begins_with sign [] = false
begins_with sign (x ∷ xs) = x == sign

-- the first place at which two colons stand
abbrev pub gap_of : List ℕ → Option ℕ
gap_of [] = None
gap_of (x ∷ xs) = cond (begins_with 58 xs && (x == 58)) (Some 0) (option_map suc (gap_of xs))

-- one thing where there is no place, another where there is one
abbrev pub at_place : {X : Type 0} → Option ℕ → X → (ℕ → X) → X
at_place None none some = none
at_place (Some i) none some = some i
