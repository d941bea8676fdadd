-- What lists by name become.
use Rattle.std.specs.Prelude.{◌≡◌, ℕ, Bool, false, not, List, filter, if◌then◌else◌}
use Rattle.std.specs.declared.cmp.Ordering.{Ordering}
use Rattle.net_model.specs.Name.{same_bytes}
use Rattle.net_model.specs.Words.{put}

-- no list has changed
abbrev pub Same : {V : Type 0} → (List ℕ → List V) → (List ℕ → List V) → Type 0
Same old new = (k : List ℕ) → new k ≡ old k

-- the list of this name is this, and no other has changed
pub record ChangesAt {V : Type 0} (name : List ℕ) (list : List V) (old new : List ℕ → List V) : Type 0 where
  pub here : new name ≡ list
  pub others : (k : List ℕ) → same_bytes k name ≡ false → new k ≡ old k

-- the value is put into the lists of the names that pass, and no other has changed
abbrev pub Puts : {V : Type 0} → (V → V → Ordering) → V → (List ℕ → Bool) → (List ℕ → List V) → (List ℕ → List V) → Type 0
Puts R value test old new = (k : List ℕ) → new k ≡ (if test k then put R value (old k) else old k)

-- each list has lost this name, and nothing else
abbrev pub LeavesOut : List ℕ → (List ℕ → List (List ℕ)) → (List ℕ → List (List ℕ)) → Type 0
LeavesOut name old new = (k : List ℕ) → new k ≡ filter (λ n. not (same_bytes n name)) (old k)
