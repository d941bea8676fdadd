-- What a binary search tells of a strictly sorted list.
use Rattle.std.specs.Prelude.{◌≡◌, ℕ, ◌<◌, ◌≤◌, List, length, Result, Ok, Err, slice_index_or}
use Rattle.std.specs.declared.cmp.Ordering.{Ordering}
use Rattle.std.specs.declared.cmp.Ordering.TheVariants.{Less, Equal, Greater}
use Rattle.std.specs.List.Sorted.{IsPartitionPoint}

-- the place of one that ties, or the place between those below and those above
abbrev pub Searches : {X : Type 0} → (X → X → Ordering) → X → List X → Result ℕ ℕ → Type 0
Searches {X} R x xs (Ok i) = (i < length xs) × ((d : X) → R (slice_index_or xs i d) x ≡ Equal)
Searches R x xs (Err i) = (i ≤ length xs) × IsPartitionPoint (λ y. R y x ≡ Less) (λ y. R y x ≡ Greater) xs i
