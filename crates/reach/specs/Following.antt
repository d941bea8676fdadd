-- Places that are marked, while the arrows of some are left to be followed.
use Rattle.std.specs.Prelude.{◌≡◌, ℕ, ◌+◌, ◌<◌, ◌≤◌, ◌⊎◌, ◌||◌, Bool, true, false, List, [], ◌∷◌, ◌++◌, length, get_or, set}
use Rattle.reach.specs.Reach.{is_marked, unmarked, IsOn, AllMarked, IsClosed, Within}
use Rattle.reach.specs.Cycle.{target}

-- the list has the places that are marked, and no others
pub record Lists (marks : List Bool) (places : List ℕ) : Type 0 where
  pub only : (j : ℕ) → j < length places → is_marked marks (get_or places j 0) ≡ true
  pub all : (i : ℕ) → is_marked marks i ≡ true → IsOn places i

-- a place is marked, and is left behind the others where it is new and no source
pub record Marks (starts : List Bool) (target : ℕ) (old new : List Bool) (before after : List ℕ) : Type 0 where
  pub marks : new ≡ set old target true
  pub left : ((after ≡ before) × ((is_marked starts target || is_marked old target) ≡ true)) ⊎ ((after ≡ before ++ target ∷ []) × (is_marked old target ≡ false))

-- what is marked is reachable, and each source and each marked place is left or its arrows lead to marked ones
pub record Waits (arrows : List (List ℕ)) (starts marks : List Bool) (left : List ℕ) : Type 0 where
  pub whole : length marks ≡ length arrows
  pub inside : (j : ℕ) → j < length left → get_or left j 0 < length arrows
  pub comes : (j : ℕ) → j < length left → (is_marked starts (get_or left j 0) || is_marked marks (get_or left j 0)) ≡ true
  pub done : (i : ℕ) → i < length arrows → (is_marked starts i || is_marked marks i) ≡ true → IsOn left i ⊎ AllMarked (get_or arrows i []) (is_marked marks)
  pub only : (t : ℕ → Bool) → IsClosed arrows starts t → Within (is_marked marks) t

-- the same while the first so many arrows of one more place are followed
pub record Works (arrows : List (List ℕ)) (starts marks : List Bool) (left : List ℕ) (place count : ℕ) : Type 0 where
  pub whole : length marks ≡ length arrows
  pub inside : (j : ℕ) → j < length left → get_or left j 0 < length arrows
  pub comes : (j : ℕ) → j < length left → (is_marked starts (get_or left j 0) || is_marked marks (get_or left j 0)) ≡ true
  pub here : (is_marked starts place || is_marked marks place) ≡ true
  pub followed : (k : ℕ) → k < count → is_marked marks (target arrows place k) ≡ true
  pub done : (i : ℕ) → i < length arrows → (is_marked starts i || is_marked marks i) ≡ true → IsOn left i ⊎ ((i ≡ place) ⊎ AllMarked (get_or arrows i []) (is_marked marks))
  pub only : (t : ℕ → Bool) → IsClosed arrows starts t → Within (is_marked marks) t

-- each arrow of a place is followed
pub record Follows (arrows : List (List ℕ)) (starts old new : List Bool) (before after : List ℕ) : Type 0 where
  pub waits : Waits arrows starts new after
  pub no_more : unmarked new + length after ≤ unmarked old + length before
