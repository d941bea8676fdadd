-- The links that depend on one, as a walk marks them by their places.
use Rattle.std.specs.Prelude.{◌≡◌, ◌⊎◌, ℕ, ◌+◌, ◌<◌, ◌≤◌, Bool, true, List, length, slice_index_or}
use Rattle.reach.specs.Reach.{is_marked, unmarked, IsOn, Within}
use Rattle.net_model.specs.Dependence.{depends_on, reaches}
use Rattle.net_model.specs.declared.link.Link.{Link}

-- each of these is the place of a link, and marked
abbrev pub AreLeft : List Link → List Bool → List ℕ → Type 0
AreLeft links marks places = (j : ℕ) → j < length places → (slice_index_or places j 0 < length links) × (is_marked marks (slice_index_or places j 0) ≡ true)

-- Links that pass are marked, where they weren't; each of them is left to be followed then, as are those that were left before.
pub record Grows (links : List Link) (d : Link) (which : Link → Bool) (old new : List Bool) (before after : List ℕ) : Type 0 where
  pub long : length new ≡ length old
  pub kept : Within (is_marked old) (is_marked new)
  pub only : (i : ℕ) → i < length links → is_marked new i ≡ true → (is_marked old i ≡ true) ⊎ (which (slice_index_or links i d) ≡ true)
  pub still : (i : ℕ) → IsOn before i → IsOn after i
  pub fresh : (i : ℕ) → is_marked new i ≡ true → (is_marked old i ≡ true) ⊎ IsOn after i
  pub waits : AreLeft links old before → AreLeft links new after
  pub no_more : unmarked new + length after ≤ unmarked old + length before

-- and all that pass are marked then
pub record MarksAll (links : List Link) (d : Link) (which : Link → Bool) (old new : List Bool) (before after : List ℕ) : Type 0 where
  pub grows : Grows links d which old new before after
  pub all : (i : ℕ) → i < length links → which (slice_index_or links i d) ≡ true → is_marked new i ≡ true

-- the link at this place is marked, and each that depends on a marked one; all that are marked are that link, or reach it
pub record AreDependents (links : List Link) (d : Link) (at : ℕ) (marks : List Bool) : Type 0 where
  pub long : length marks ≡ length links
  pub first : is_marked marks at ≡ true
  pub only : (i : ℕ) → i < length links → is_marked marks i ≡ true → (i ≡ at) ⊎ (reaches links (length links) (slice_index_or links i d).name (slice_index_or links at d) ≡ true)
  pub closed : (i k : ℕ) → i < length links → k < length links → is_marked marks i ≡ true → depends_on (slice_index_or links k d) (slice_index_or links i d) ≡ true → is_marked marks k ≡ true
