-- What a settling makes of what stood.
use Rattle.std.proofs.Common.{◌≡◌, inl, inr, ℕ, Bool, true, false, refl, sym, ap, ◌∙◌, Option, Some, None}
use Rattle.std.specs.Prelude.{not, if◌then◌else◌, option_map}
use Rattle.net_model.specs.NetData.{NetData}
use Rattle.host_core.specs.HostView.{State, HostView}
use Rattle.host_core.specs.Stops.{Steps, Stays}
use Rattle.checkpoint_cell.specs.declared.Phase.{Phase}
use Rattle.checkpoint_cell.specs.declared.Phase.TheVariants.{Applying, Waiting}
use Rattle.checkpoint_cell.specs.declared.Seen.TheVariants.{Empty, Set}
use Rattle.checkpoint_cell.specs.Cell.{Checkpoint, cell_of, seen_of, applying, is_due}
use Rattle.checkpoint_cell.specs.Steps.{Holds}
use Rattle.checkpoint_cell.specs.Settled.{standing, settled, settled_from, taken_back}
use Rattle.engine_model.specs.Undone.{restored, undone, undone_cell}
use Rattle.engine_model.specs.Sound.{Sound}
use Rattle.engine_model.specs.Stations.{Ends}
use Rattle.checkpoint_cell.specs.Settled.{restored_to}

-- a checkpoint of this phase and these moments
pub record SetAs (cell : Option Checkpoint) (phase : Phase) (made deadline : ℕ) : Type 0 where
  pub checkpoint : Checkpoint
  pub is : cell ≡ Some checkpoint
  pub phase_is : checkpoint.phase ≡ phase
  pub made_is : checkpoint.made ≡ made
  pub deadline_is : checkpoint.deadline ≡ deadline

-- what is seen as set is a checkpoint of this phase and these moments
pub set_as : (cell : Option Checkpoint) (phase : Phase) (made deadline : ℕ) → Set phase made deadline ≡ seen_of cell → SetAs cell phase made deadline
set_as None phase made deadline seen = let e : Set phase made deadline ≡ Empty = seen in absurd (cc)
set_as (Some checkpoint) phase made deadline seen =
    let e : Set phase made deadline ≡ Set checkpoint.phase checkpoint.made checkpoint.deadline = seen in
    record { checkpoint = checkpoint; is = refl; phase_is = cc; made_is = cc; deadline_is = cc }

-- what is seen as empty is no checkpoint
pub empty_as : (cell : Option Checkpoint) → Empty ≡ seen_of cell → cell ≡ None
empty_as None seen = refl
empty_as (Some checkpoint) seen = let e : Empty ≡ Set checkpoint.phase checkpoint.made checkpoint.deadline = seen in absurd (cc)

-- where no change is being made, nothing but what reads stands after a barrier
pub stands : (old new : HostView) → old.stops.may_leave old.state → Sound old → ((made deadline : ℕ) (saved : NetData) → cell_of old.state.cell ≡ Some (applying made deadline saved) → ⊥)
    → Steps Stays old.stops new.stops → Holds (cell_of old.state.cell) new → Ends (standing old.state) new
stands old new here sound none steps holds s left =
    let from = steps.now s left in
    let net : s.net ≡ old.state.net = ap (λ (p : State). p.net) from.2 ∙ elim sound.one [
      | inl (net, all) ↦ all from.0 from.1 ∙ sym (all old.state here)
      | inr (saved, all) ↦ let is = all old.state here in absurd (none is.0 is.1 saved is.2)
    ] in
    λ i. record { net = net i; cell = (ap cell_of (holds.sure s left) ∙ holds.cell) i }

not_applying : (now : ℕ) (phase : Phase) (made deadline : ℕ) → taken_back now phase made deadline ≡ false → phase ≡ Applying → ⊥
not_applying now Applying made deadline waits is = let e : true ≡ false = waits in cc
not_applying now Waiting made deadline waits is = cc

module _ (now : ℕ) (entry : State) (phase : Phase) (made deadline : ℕ) (seen_set : SetAs (cell_of entry.cell) phase made deadline) where
  -- a change that waits in time is not one that is being made
  pub none_applying : taken_back now phase made deadline ≡ false → (m d : ℕ) (saved : NetData) → cell_of entry.cell ≡ Some (applying m d saved) → ⊥
  none_applying waits m d saved is =
      let e : Some seen_set.checkpoint ≡ Some (applying m d saved) = sym seen_set.is ∙ is in
      let same : seen_set.checkpoint ≡ applying m d saved = cc in
      not_applying now phase made deadline waits (sym seen_set.phase_is ∙ ap (λ (c : Checkpoint). c.phase) same)

  by : (b : Bool) (saved : NetData) → taken_back now phase made deadline ≡ b → seen_set.checkpoint.net ≡ Some saved
      → settled now (standing entry) ≡ Some (if b then restored_to saved else standing entry)
  by b saved is has =
      let c = seen_set.checkpoint in
      let same : taken_back now c.phase c.made c.deadline ≡ b = (λ i. taken_back now (seen_set.phase_is i) (seen_set.made_is i) (seen_set.deadline_is i)) ∙ is in
      ap (λ (k : Option Checkpoint). settled_from now (standing entry) k) seen_set.is
      ∙ ap (λ (n : Option NetData). option_map (λ (s : NetData). if taken_back now c.phase c.made c.deadline then restored_to s else standing entry) n) has
      ∙ ap (λ (t : Bool). Some (if t then restored_to saved else standing entry)) same

  -- it settles to what stands
  pub settled_waits : (saved : NetData) → taken_back now phase made deadline ≡ false → seen_set.checkpoint.net ≡ Some saved → settled now (standing entry) ≡ Some (standing entry)
  settled_waits saved waits has = by false saved waits has

  -- one that is taken back settles to its saved network alone
  pub settled_back : (saved : NetData) → taken_back now phase made deadline ≡ true → seen_set.checkpoint.net ≡ Some saved → settled now (standing entry) ≡ Some (restored_to saved)
  settled_back saved back has = by true saved back has

-- without a checkpoint what stands settles to itself
pub settled_empty : (now : ℕ) (entry : State) → cell_of entry.cell ≡ None → settled now (standing entry) ≡ Some (standing entry)
settled_empty now entry none = ap (λ (c : Option Checkpoint). settled_from now (standing entry) c) none

-- the value whose negation holds is false
pub not_true : (b : Bool) → true ≡ not b → b ≡ false
not_true true e = let f : true ≡ false = e in absurd (cc)
not_true false e = refl

-- the value whose negation does not hold is true
pub not_false : (b : Bool) → false ≡ not b → b ≡ true
not_false true e = refl
not_false false e = let f : false ≡ true = e in absurd (cc)

-- where nothing is set, what goes back to a network is that network
pub empty_back : (saved : NetData) (s : State) → cell_of s.cell ≡ None → undone (standing s) ≡ Some (restored_to saved) → standing s ≡ restored_to saved
empty_back saved s none is =
    let e : Some (standing s) ≡ Some (restored_to saved) = sym (ap (λ (c : Option Checkpoint). undone_cell (standing s) c) none) ∙ is in
    cc

-- a checkpoint is taken back to its saved network
pub undone_set : (s : State) (checkpoint : Checkpoint) → cell_of s.cell ≡ Some checkpoint → undone (standing s) ≡ restored checkpoint.net
undone_set s checkpoint is = ap (λ (c : Option Checkpoint). undone_cell (standing s) c) is

-- what is not taken back waits, and is not due
pub waits_of : (now : ℕ) (phase : Phase) (made deadline : ℕ) → taken_back now phase made deadline ≡ false → (phase ≡ Waiting) × (is_due made deadline now ≡ false)
waits_of now Applying made deadline is = let e : true ≡ false = is in absurd (cc)
waits_of now Waiting made deadline is = (refl, is)
