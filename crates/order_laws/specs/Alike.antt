-- Readings that give the same, whatever the order in which it was met.
use Rattle.std.specs.Prelude.{◌≡◌, Ok, Err}
use Rattle.std.specs.List.Sorted.{IsPermutation}
use Rattle.tree_schema.specs.Reading.{Reading}

-- the same value, with the same notes in some order; or both are refused, for reasons and at places of their own
abbrev pub AreAlike : {X : Type 0} → Reading X → Reading X → Type 0
AreAlike (Ok (x, notes)) (Ok (y, others)) = (x ≡ y) × IsPermutation notes others
AreAlike (Ok found) (Err refusal) = ⊥
AreAlike (Err refusal) (Ok found) = ⊥
AreAlike (Err refusal) (Err other) = Unit {0}
