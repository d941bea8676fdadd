-- Arrows that lead round in a cycle.
use Rattle.std.specs.Prelude.{◌≡◌, ℕ, ◌<◌, ◌≤◌, Bool, true, false, List, [], length, get_or}
use Rattle.reach.specs.Reach.{is_marked}

-- where the arrow k of the place i leads
abbrev pub target : List (List ℕ) → ℕ → ℕ → ℕ
target arrows i k = get_or (get_or arrows i []) k 0

-- the places have ranks that fall along each arrow: there is no cycle
pub record HasRanks (arrows : List (List ℕ)) : Type 0 where
  pub rank : ℕ → ℕ
  pub falls : (i k : ℕ) → i < length arrows → k < length (get_or arrows i []) → rank (target arrows i k) < rank i

-- whether there is a cycle
abbrev pub Decides : Bool → List (List ℕ) → Type 0
Decides true arrows = HasRanks arrows → ⊥
Decides false arrows = HasRanks arrows

-- the arrows of settled places lead to settled ones of lower rank
pub record Founded (arrows : List (List ℕ)) (settled : List Bool) : Type 0 where
  pub rank : ℕ → ℕ
  pub top : ℕ
  pub most : (i : ℕ) → rank i ≤ top
  pub falls : (i k : ℕ) → i < length arrows → is_marked settled i ≡ true → k < length (get_or arrows i []) → (is_marked settled (target arrows i k) ≡ true) × (rank (target arrows i k) < rank i)
