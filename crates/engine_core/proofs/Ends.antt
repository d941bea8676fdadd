-- What a commit answers and leaves, by the machine.
use Rattle.std.proofs.Common.{◌≡◌, ◌⊎◌, inl, inr, ℕ, Bool, true, refl, sym, ap, ◌∙◌, subst, Some, None, Result, Ok, Err}
use Rattle.std.specs.Prelude.{⊤, if◌then◌else◌, OnOk, IfErr, IsErrOf}
use Rattle.host_core.specs.Faults.{Rose}
use Rattle.host_core.specs.HostView.{HostView}
use Rattle.checkpoint_cell.specs.declared.Phase.TheVariants.{Applying, Waiting}
use Rattle.checkpoint_cell.specs.Cell.{Checkpoint, cell_of, is_due}
use Rattle.checkpoint_cell.specs.Steps.{Holds}
use Rattle.checkpoint_cell.specs.Settled.{Standing, standing}
use Rattle.engine_model.specs.Machine.{Outcome, stays, committed, commit, commit_cell, commit_phase}
use Rattle.engine_model.specs.Stations.{Only, Ends, Waits, FromRead, entry_of, at, left_by, IsCommitted}
use Rattle.engine_core.specs.Committing.{IsRefusal, IsLook}
use Rattle.engine_model.specs.Exit.{CommitExit}
use Rattle.engine_model.specs.Failing.{IsUnbegun}
use Rattle.engine_model.specs.Faults.{IsOutcome, CommitAnswers}
use Rattle.engine_model.specs.declared.answers.CommitFault.{CommitFault}
use Rattle.engine_model.specs.declared.answers.CommitFault.TheVariants as co
use Rattle.engine_model.proofs.lemmas.Machines.{before_within, read_within, ends_within, ends_reads, same_reads, going_within, going_reads, going_as}

abbrev Ending : Type 0
Ending = Outcome ⊤ CommitFault

abbrev ended : Standing → Ending
ended e = record { answer = Ok tt; after = committed e }

pub commit_waits : (now : ℕ) (e : Standing) → (w : Waits now e.cell) → commit now e ≡ ended e
commit_waits now e w =
    ap (commit_cell now e) w.is ∙ ap (commit_phase now e w.checkpoint) w.waiting
    ∙ ap (λ (b : Bool). if b then stays e (Err (co.Expired w.checkpoint.made w.checkpoint.deadline)) else ended e) w.in_time

pub commit_none : (now : ℕ) (e : Standing) → e.cell ≡ None → commit now e ≡ stays e (Err co.NoCheckpoint)
commit_none now e is = ap (commit_cell now e) is

pub commit_unfinished : (now : ℕ) (e : Standing) (c : Checkpoint) → e.cell ≡ Some c → c.phase ≡ Applying → commit now e ≡ stays e (Err (co.Unfinished c.made c.deadline))
commit_unfinished now e c is phase = ap (commit_cell now e) is ∙ ap (commit_phase now e c) phase

pub commit_expired : (now : ℕ) (e : Standing) (c : Checkpoint) → e.cell ≡ Some c → c.phase ≡ Waiting → is_due c.made c.deadline now ≡ true → commit now e ≡ stays e (Err (co.Expired c.made c.deadline))
commit_expired now e c is phase due =
    ap (commit_cell now e) is ∙ ap (commit_phase now e c) phase
    ∙ ap (λ (b : Bool). if b then stays e (Err (co.Expired c.made c.deadline)) else ended e) due

-- the machine's answer, which changes nothing
refusal : (now : ℕ) (old new : HostView) (fault : CommitFault) → commit now (standing old.state) ≡ stays (standing old.state) (Err fault) → new.state ≡ old.state → IsOutcome (commit now (standing old.state)) new (Err fault)
refusal now old new fault is same = record {
  answer = ap (λ (o : Ending). o.answer) is;
  after = ap standing same ∙ sym (ap (λ (o : Ending). o.after) is);
}

module _ (tells : Type 0) (now : ℕ) (old new : HostView) where
  pub commit_answers : (result : Result ⊤ CommitFault)
      → (tells → OnOk result (Waits now (cell_of old.state.cell))) → (tells → IsErrOf result co.NoCheckpoint → cell_of old.state.cell ≡ None)
      → (tells → (made deadline : ℕ) → IsErrOf result (co.Unfinished made deadline) → (c : Checkpoint) × (cell_of old.state.cell ≡ Some c) × (c.phase ≡ Applying) × (c.made ≡ made) × (c.deadline ≡ deadline))
      → (tells → (made deadline : ℕ) → IsErrOf result (co.Expired made deadline) → (c : Checkpoint) × (cell_of old.state.cell ≡ Some c) × (c.phase ≡ Waiting) × (is_due made deadline now ≡ true) × (c.made ≡ made) × (c.deadline ≡ deadline))
      → (IsErrOf result co.HostFault ⊎ IsErrOf result co.InDoubt → Rose old.faults new.faults)
      → (tells → IsErrOf result co.InDoubt → Waits now (cell_of old.state.cell))
      → IfErr result (λ fault. IsRefusal fault → IsUnbegun tells old new) → (tells → OnOk result (standing new.state ≡ committed (standing old.state)))
      → CommitAnswers tells now old new result
  commit_answers (Ok done) waited none unfinished expired rose doubt unbegun left = λ t.
      let is = commit_waits now (standing old.state) (waited t) in
      record { answer = ap (λ (o : Ending). o.answer) is; after = left t ∙ sym (ap (λ (o : Ending). o.after) is) }
  commit_answers (Err co.NoCheckpoint) waited none unfinished expired rose doubt unbegun left = λ t.
      refusal now old new co.NoCheckpoint (commit_none now (standing old.state) (none t refl)) ((unbegun tt).same t)
  commit_answers (Err (co.Unfinished made deadline)) waited none unfinished expired rose doubt unbegun left = λ t.
      let u = unfinished t made deadline refl in
      refusal now old new (co.Unfinished made deadline)
      (commit_unfinished now (standing old.state) u.0 u.1 u.2 ∙ (λ i. stays (standing old.state) (Err (co.Unfinished (u.3 i) (u.4 i))))) ((unbegun tt).same t)
  commit_answers (Err (co.Expired made deadline)) waited none unfinished expired rose doubt unbegun left = λ t.
      let u = expired t made deadline refl in
      refusal now old new (co.Expired made deadline)
      (commit_expired now (standing old.state) u.0 u.1 u.2 ((λ i. is_due (u.4 i) (u.5 i) now) ∙ u.3) ∙ (λ i. stays (standing old.state) (Err (co.Expired (u.4 i) (u.5 i))))) ((unbegun tt).same t)
  commit_answers (Err co.HostFault) waited none unfinished expired rose doubt unbegun left = (rose (inl refl), λ t. (unbegun tt).same t)
  commit_answers (Err co.InDoubt) waited none unfinished expired rose doubt unbegun left =
      (rose (inr refl), λ t. ap (λ (o : Ending). o.answer) (commit_waits now (standing old.state) (doubt t refl)))

module _ (tells : Type 0) (now : ℕ) (old new : HostView) (here : old.stops.may_leave old.state) (there : new.stops.may_leave new.state) where
  after_is : (w : Waits now (cell_of old.state.cell)) → committed (standing old.state) ≡ (commit now (standing old.state)).after
  after_is w = sym (ap (λ (o : Ending). o.after) (commit_waits now (standing old.state) w))

  pub committed_is : (a : Standing) → IsCommitted now old.state a → a ≡ (commit now (standing old.state)).after
  committed_is a is = is.1 ∙ after_is is.0

  pub commit_exit : (result : Result ⊤ CommitFault) → OnOk result (Waits now (cell_of old.state.cell)) → OnOk result (Ends (committed (standing old.state)) new)
      → IfErr result (λ fault. IsRefusal fault → IsUnbegun tells old new) → IfErr result (λ fault. IsLook fault → Holds (cell_of old.state.cell) new)
      → (IsErrOf result co.InDoubt → FromRead (IsCommitted now old.state) old new) → CommitExit now (entry_of old) (left_by new) result
  commit_exit (Ok done) waited ends unbegun looked doubted = ends_within old new (commit now (standing old.state)).after (subst (λ (x : Standing). Ends x new) (after_is waited) ends)
  commit_exit (Err co.NoCheckpoint) waited ends unbegun looked doubted = read_within old new (unbegun tt).stops (looked tt)
  commit_exit (Err (co.Unfinished made deadline)) waited ends unbegun looked doubted = read_within old new (unbegun tt).stops (looked tt)
  commit_exit (Err (co.Expired made deadline)) waited ends unbegun looked doubted = read_within old new (unbegun tt).stops (looked tt)
  commit_exit (Err co.HostFault) waited ends unbegun looked doubted = before_within old new (unbegun tt).stops
  commit_exit (Err co.InDoubt) waited ends unbegun looked doubted =
      going_within old new (Only (commit now (standing old.state)).after) here (going_as (IsCommitted now old.state) (Only (commit now (standing old.state)).after) old new committed_is (doubted refl))

  pub commit_reads : tells → (result : Result ⊤ CommitFault) → OnOk result (Waits now (cell_of old.state.cell)) → OnOk result (Ends (committed (standing old.state)) new)
      → IfErr result (λ fault. IsRefusal fault → IsUnbegun tells old new)
      → (IsErrOf result co.InDoubt → FromRead (IsCommitted now old.state) old new) → CommitExit now (at (standing old.state)) (Only (standing new.state)) result
  commit_reads told (Ok done) waited ends unbegun doubted = ends_reads old new (commit now (standing old.state)).after there (subst (λ (x : Standing). Ends x new) (after_is waited) ends)
  commit_reads told (Err co.NoCheckpoint) waited ends unbegun doubted = λ stands is. record { station = standing old.state; is = (refl, refl); like = same_reads old new ((unbegun tt).same told) stands is }
  commit_reads told (Err (co.Unfinished made deadline)) waited ends unbegun doubted = λ stands is. record { station = standing old.state; is = (refl, refl); like = same_reads old new ((unbegun tt).same told) stands is }
  commit_reads told (Err (co.Expired made deadline)) waited ends unbegun doubted = λ stands is. record { station = standing old.state; is = (refl, refl); like = same_reads old new ((unbegun tt).same told) stands is }
  commit_reads told (Err co.HostFault) waited ends unbegun doubted = λ stands is. record { station = standing old.state; is = refl; like = same_reads old new ((unbegun tt).same told) stands is }
  commit_reads told (Err co.InDoubt) waited ends unbegun doubted =
      going_reads old new (Only (commit now (standing old.state)).after) here (going_as (IsCommitted now old.state) (Only (commit now (standing old.state)).after) old new committed_is (doubted refl)) there
