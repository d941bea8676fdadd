-- Arrows that are drawn one after another.
use Rattle.std.specs.Prelude.{ℕ, Bool, List, ◌++◌, map, take}
use Rattle.reach.specs.Positions.{positions}

-- for each of a list, what is there at first, and the places of those among the first so many that it leads to
abbrev pub rows_to : {X : Type 0} → (X → List ℕ) → (X → X → Bool) → List X → ℕ → List (List ℕ)
rows_to first leads xs count = map (λ x. first x ++ positions (leads x) 0 (take count xs)) xs
