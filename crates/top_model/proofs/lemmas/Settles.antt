-- What the machine's apply, recovery and rollback make of what stands, where a recovery can lead back from it.
use Rattle.std.proofs.Common.{◌≡◌, ◌∙◌, refl, sym, ap, subst, ℕ, Bool, true, false, Option, Some, None}
use Rattle.std.specs.Prelude.{Ok, option_map, if◌then◌else◌}
use Rattle.net_model.specs.NetData.{NetData}
use Rattle.host_core.specs.HostView.{State}
use Rattle.checkpoint_cell.specs.Cell.{Checkpoint}
use Rattle.checkpoint_cell.specs.Settled.{Standing, standing, restored_to, taken_back, settled_from, settled}
use Rattle.merge_model.specs.MergedNet.{merge}
use Rattle.engine_model.specs.Machine.{Asked, Outcome, stays, unless_differing, saved_on, restored_as, restore, rollback_cell, rollback, recover_cell, recover, change, merged_as, apply_step, apply}
use Rattle.engine_model.specs.Sound.{IsWhole, Fit}
use Rattle.engine_model.specs.declared.Recovered.{Recovered}
use Rattle.engine_model.specs.declared.Recovered.TheVariants.{Nothing, Waiting as Waits, Restored}
use Rattle.engine_model.specs.declared.BackFault.{BackFault}
use Rattle.engine_model.proofs.lemmas.SameDevices.{differing_none}

-- two that are there are the same where they are so behind `Some`
pub same_some : {A : Type 0} (x y : A) → Some x ≡ Some y → x ≡ y
same_some x y e = cc

none_some : {A : Type 0} (x : A) → None ≡ Some x → ⊥
none_some x e = cc

abbrev net_in : Option Standing → Option NetData
net_in None = None
net_in (Some e) = e.net

abbrev cell_in : Option Standing → Option Checkpoint
cell_in None = None
cell_in (Some e) = e.cell

-- a recovery at this moment, by whether the checkpoint is taken back
abbrev recovered : Standing → Checkpoint → Bool → Outcome Recovered BackFault
recovered e c taken = if taken then restore Restored e c else stays e (Ok (Waits c.deadline))

-- restoring leads to the saved network
pub restores : {A : Type 0} (done : A) (s : State) (c : Checkpoint) (w : IsWhole s c) → restore done (standing s) c ≡ record { answer = Ok done; after = restored_to w.saved }
restores done s c w = ap (λ x. restored_as done (standing s) (saved_on x s.net)) w.is_saved ∙ ap (λ x. restored_as done (standing s) (saved_on (Some w.saved) x)) w.is_net
    ∙ ap (λ x. restored_as done (standing s) (unless_differing w.saved x)) (differing_none w.saved w.net (sym w.devices))

abbrev by_taken_back : Standing → Bool → NetData → Standing
by_taken_back e taken saved = if taken then restored_to saved else e

-- what a recovery makes of what stands is what it is said to make
settled_whole : (now : ℕ) (s : State) (c : Checkpoint) (w : IsWhole s c)
    → settled_from now (standing s) (Some c) ≡ Some (by_taken_back (standing s) (taken_back now c.phase c.made c.deadline) w.saved)
settled_whole now s c w = ap (λ n. option_map (λ saved. by_taken_back (standing s) (taken_back now c.phase c.made c.deadline) saved) n) w.is_saved

module _ (a : Asked) (from : NetData) (s : State) (fit : Fit s) where
  by_taken : (c : Checkpoint) (taken : Bool) (w : IsWhole s c) → (standing s).cell ≡ Some c → by_taken_back (standing s) taken w.saved ≡ restored_to from
      → apply_step a (recovered (standing s) c taken) ≡ merged_as a from (merge from a.doc)
  by_taken c true w is stands =
      let same : w.saved ≡ from = same_some w.saved from (ap (λ (e : Standing). e.net) stands) in
      ap (apply_step a) (restores Restored s c w) ∙ ap (λ x. merged_as a x (merge x a.doc)) same
  by_taken c false w is stands = absurd (none_some c (sym (ap (λ (e : Standing). e.cell) stands) ∙ is))

  by_cell : (cell : Option Checkpoint) → (standing s).cell ≡ cell → settled_from a.now (standing s) cell ≡ Some (restored_to from)
      → apply_step a (recover_cell a.now (standing s) cell) ≡ merged_as a from (merge from a.doc)
  by_cell None is stands = ap (λ (x : Standing). change a x x.net) (same_some (standing s) (restored_to from) stands)
  by_cell (Some c) is stands =
      let w = fit.whole c is in
      by_taken c (taken_back a.now c.phase c.made c.deadline) w is (same_some _ (restored_to from) (sym (settled_whole a.now s c w) ∙ stands))

  -- an apply after whose settling this network stands merges the document with it
  pub apply_is : settled a.now (standing s) ≡ Some (restored_to from) → apply a (standing s) ≡ merged_as a from (merge from a.doc)
  apply_is stands = by_cell (standing s).cell refl stands

-- a recovery is done, and makes what it is said to make
pub record Settles (now : ℕ) (outcome : Outcome Recovered BackFault) (stands : Option Standing) : Type 0 where
  pub answer : Recovered
  pub done : outcome.answer ≡ Ok answer
  pub after : stands ≡ Some outcome.after

module _ (now : ℕ) (s : State) (fit : Fit s) where
  settles_taken : (c : Checkpoint) (taken : Bool) (w : IsWhole s c) → Settles now (recovered (standing s) c taken) (Some (by_taken_back (standing s) taken w.saved))
  settles_taken c true w = subst (λ o. Settles now o (Some (restored_to w.saved))) (sym (restores Restored s c w)) (record { answer = Restored; done = refl; after = refl })
  settles_taken c false w = record { answer = Waits c.deadline; done = refl; after = refl }

  settles_cell : (cell : Option Checkpoint) → (standing s).cell ≡ cell → Settles now (recover_cell now (standing s) cell) (settled_from now (standing s) cell)
  settles_cell None is = record { answer = Nothing; done = refl; after = refl }
  settles_cell (Some c) is =
      let w = fit.whole c is in
      subst (λ x. Settles now (recovered (standing s) c (taken_back now c.phase c.made c.deadline)) x) (sym (settled_whole now s c w)) (settles_taken c (taken_back now c.phase c.made c.deadline) w)

  pub recover_settles : Settles now (recover now (standing s)) (settled now (standing s))
  recover_settles = settles_cell (standing s).cell refl

  -- a rollback of a checkpoint leads to its network
  pub rollback_restores : (c : Checkpoint) (w : IsWhole s c) → (standing s).cell ≡ Some c → rollback (standing s) ≡ record { answer = Ok tt; after = restored_to w.saved }
  rollback_restores c w is = ap (rollback_cell (standing s)) is ∙ restores tt s c w
