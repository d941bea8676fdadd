-- Which places of a graph may be on a cycle, by numbers that rise along no arrow.
use Rattle.std.specs.Prelude.{◌≡◌, ℕ, ◌<◌, ◌≤◌, Bool, true, false, List, [], length, get_or, Option, Some, None, slice_index_or}
use Rattle.std.specs.List.{list_all}
use Rattle.std.specs.Ordering.{is_lt}
use Rattle.reach.specs.Reach.{is_marked}
use Rattle.reach.specs.Cycle.{target}
use Rattle.net_model.specs.Order.{link_cmp}
use Rattle.net_model.specs.declared.Link.{Link}

-- the targets of a place's arrows have numbers that stand so to that of the place
abbrev pub each_arrow : (ℕ → ℕ → Bool) → List (List ℕ) → List ℕ → ℕ → Bool
each_arrow R arrows numbers i = list_all (λ t. R (get_or numbers t 0) (get_or numbers i 0)) (get_or arrows i [])

-- no cycle leads through the place: there are ranks that rise along no arrow, and fall along those of the place
pub record IsOff (arrows : List (List ℕ)) (i : ℕ) : Type 0 where
  pub rank : ℕ → ℕ
  pub stays : (j k : ℕ) → j < length arrows → k < length (get_or arrows j []) → rank (target arrows j k) ≤ rank j
  pub falls : (k : ℕ) → k < length (get_or arrows i []) → rank (target arrows i k) < rank i

-- no cycle leads through those of the first so many places that aren't marked
pub record Excludes (arrows : List (List ℕ)) (count : ℕ) (may : List Bool) : Type 0 where
  pub whole : length may ≡ count
  pub off : (i : ℕ) → i < count → is_marked may i ≡ false → IsOff arrows i

-- among the first so many links, none that is marked has a lesser name than the link at this place
pub record IsLeast (links : List Link) (may : List Bool) (count at : ℕ) : Type 0 where
  pub inside : at < length links
  pub least : (j : ℕ) → j < count → is_marked may j ≡ true → (d : Link) → is_lt (link_cmp (slice_index_or links j d) (slice_index_or links at d)) ≡ false

-- that place, or none where none is marked
abbrev pub IsLeastOf : List Link → List Bool → ℕ → Option ℕ → Type 0
IsLeastOf links may count None = (j : ℕ) → j < count → is_marked may j ≡ false
IsLeastOf links may count (Some at) = IsLeast links may count at
