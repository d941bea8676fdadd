-- The places of a list's members that pass a test: a row of a graph, where the test asks what a member leads to.
use Rattle.std.specs.Prelude.{ℕ, ◌+◌, Bool, List, [], ◌∷◌, if◌then◌else◌}

-- the places of those that pass, where the first of the list has this place
abbrev pub positions : {X : Type 0} → (X → Bool) → ℕ → List X → List ℕ
positions p at [] = []
positions p at (x ∷ xs) = if p x then at ∷ positions p (at + 1) xs else positions p (at + 1) xs
