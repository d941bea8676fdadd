-- A depth-first walk over a graph, with the places on its way on a stack.
use Rattle.std.specs.Prelude.{◌≡◌, ℕ, ◌+◌, ◌-◌, ◌*◌, ◌<◌, ◌≤◌, Bool, true, false, List, [], ◌∷◌, ◌++◌, length, get_or, set, replicate}
use Rattle.reach.specs.Reach.{is_marked, unmarked, IsOn, Within}
use Rattle.reach.specs.Cycle.{target, HasRanks, Founded}
use Rattle.reach.specs.declared.cycle.Walk.{Walk}

-- the place stands at the end of the stack
pub record IsTop (stack : List ℕ) (top : ℕ) : Type 0 where
  pub some : 0 < length stack
  pub at : get_or stack (length stack - 1) 0 ≡ top

-- no rank rises along the stack
abbrev pub Descends : List (List ℕ) → List ℕ → Type 0
Descends arrows stack = (r : HasRanks arrows) (i j : ℕ) → i ≤ j → j < length stack → r.rank (get_or stack j 0) ≤ r.rank (get_or stack i 0)

-- what is known on the way: what is entered and not settled is on the stack, along which no rank rises
pub record Walks (arrows : List (List ℕ)) (entered settled : List Bool) (next stack : List ℕ) : Type 0 where
  pub all_entered : length entered ≡ length arrows
  pub all_settled : length settled ≡ length arrows
  pub all_next : length next ≡ length arrows
  pub inside : (j : ℕ) → j < length stack → get_or stack j 0 < length arrows
  pub founded : Founded arrows settled
  pub known : (i k : ℕ) → k < get_or next i 0 → is_marked settled (target arrows i k) ≡ true
  pub waiting : (i : ℕ) → is_marked entered i ≡ true → is_marked settled i ≡ false → IsOn stack i
  pub descends : Descends arrows stack

abbrev pub AtWork : List (List ℕ) → Walk → Type 0
AtWork arrows w = Walks arrows w.entered.items w.settled.items w.next.items w.stack.items

-- how many arrows aren't known to lead to settled places
abbrev pub unknown : List (List ℕ) → List ℕ → ℕ
unknown [] next = 0
unknown (row ∷ rows) [] = 0
unknown (row ∷ rows) (n ∷ next) = (length row - n) + unknown rows next

-- how many steps are left at most: one for each arrow, and for each place one that enters it and one that settles it
abbrev pub steps_left : List (List ℕ) → Walk → ℕ
steps_left arrows w = unknown arrows w.next.items + 2 * unmarked w.entered.items + length w.stack.items

pub record Begins (places : ℕ) (walk : Walk) : Type 0 where
  pub entered : walk.entered.items ≡ replicate places false
  pub settled : walk.settled.items ≡ replicate places false
  pub next : walk.next.items ≡ replicate places 0
  pub stack : walk.stack.items ≡ []

pub record Enters (place : ℕ) (old new : Walk) : Type 0 where
  pub entered : new.entered.items ≡ set old.entered.items place true
  pub settled : new.settled.items ≡ old.settled.items
  pub next : new.next.items ≡ old.next.items
  pub stack : new.stack.items ≡ old.stack.items ++ place ∷ []

pub record Settles (top : ℕ) (old new : Walk) : Type 0 where
  pub entered : new.entered.items ≡ old.entered.items
  pub settled : new.settled.items ≡ set old.settled.items top true
  pub next : new.next.items ≡ old.next.items
  pub stack : (last : ℕ) × (old.stack.items ≡ new.stack.items ++ last ∷ [])

-- there is a cycle, or else this holds
abbrev pub Meets : Bool → List (List ℕ) → Type 0 → Type 0
Meets true arrows else_holds = HasRanks arrows → ⊥
Meets false arrows else_holds = else_holds

-- one step further
pub record Steps (arrows : List (List ℕ)) (old new : Walk) : Type 0 where
  pub walks : AtWork arrows new
  pub kept : Within (is_marked old.entered.items) (is_marked new.entered.items)
  pub fewer : steps_left arrows new < steps_left arrows old

-- nothing is left on the stack
pub record Rests (arrows : List (List ℕ)) (walk : Walk) : Type 0 where
  pub walks : AtWork arrows walk
  pub none : length walk.stack.items ≡ 0

pub record Ends (arrows : List (List ℕ)) (old new : Walk) : Type 0 where
  pub rests : Rests arrows new
  pub kept : Within (is_marked old.entered.items) (is_marked new.entered.items)

-- the place is entered and all that it leads to is settled
pub record Comes (arrows : List (List ℕ)) (place : ℕ) (old new : Walk) : Type 0 where
  pub rests : Rests arrows new
  pub kept : Within (is_marked old.entered.items) (is_marked new.entered.items)
  pub there : is_marked new.entered.items place ≡ true
