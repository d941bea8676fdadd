-- What follows where a step of a reader gives something.
use Rattle.std.proofs.Common.{◌≡◌, ℕ, ◌⊎◌, Bool, true, false, cond, Option, Some, None, refl, inl, inr}
use Rattle.std.specs.Option.{option_map}
use Rattle.addr_text.specs.Find.{at_place}

-- the place and what was read from it
pub record Placed {X : Type 0} (o : Option ℕ) (some : ℕ → X) (x : X) : Type 0 where
  pub place : ℕ
  pub found : o ≡ Some place
  pub read : some place ≡ x

-- a step behind a place: there was no place, or the answer is of what stands there
pub placed_or_none : {X : Type 0} (o : Option ℕ) (none : X) (some : ℕ → X) (x : X) → at_place o none some ≡ x → ((o ≡ None) × (none ≡ x)) ⊎ Placed o some x
placed_or_none None none some x h = inl (refl, h)
placed_or_none (Some i) none some x h = inr (record { place = i; found = refl; read = h })

-- what was mapped
pub record Mapped {X Y : Type 0} (f : X → Y) (o : Option X) (y : Y) : Type 0 where
  pub item : X
  pub found : o ≡ Some item
  pub made : f item ≡ y

-- where a mapped option has a value, the option had one
pub mapped : {X Y : Type 0} (f : X → Y) (o : Option X) (y : Y) → option_map f o ≡ Some y → Mapped f o y
mapped f None y h = cc
mapped f (Some x) y h = record { item = x; found = refl; made = cc }

-- the test held
pub kept : {X : Type 0} (b : Bool) (x y : X) → cond b (Some x) None ≡ Some y → (b ≡ true) × (x ≡ y)
kept true x y h = (refl, cc)
kept false x y h = cc
