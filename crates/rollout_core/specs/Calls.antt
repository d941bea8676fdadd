-- What is known of each call on the host of a node, by what the host tells before it and after it.
use Rattle.std.specs.Prelude.{◌≡◌, ◌≢◌, ◌≤◌, ⊤, ℕ, Some, Result, Ok, Err, IfErr, OnOk}
use Rattle.net_model.specs.NetData.{NetData}
use Rattle.host_core.specs.Faults.{Rose, RoseTwice}
use Rattle.host_core.specs.Stops.{Steps, Stays}
use Rattle.host_core.specs.HostView.{State, HostView}
use Rattle.plan_model.specs.Undisturbed.{IsUndisturbed}
use Rattle.merge_model.specs.MergedNet.{merge}
use Rattle.checkpoint_cell.specs.Settled.{standing, restored_to}
use Rattle.engine_model.specs.Machine.{Asked, apply, commit, rollback, recover}
use Rattle.engine_model.specs.Checks.{check, CheckSays, CheckAnswers, CheckExit}
use Rattle.engine_model.specs.Sound.{WhereSound}
use Rattle.engine_model.specs.Stations.{Only, Settled, Either, Kept, at, entry_of, left_by}
use Rattle.engine_model.specs.Compared.{Compared}
use Rattle.engine_model.specs.Exit.{ApplyExit, CommitExit, BackExit}
use Rattle.engine_model.specs.Answers.{IsBefore}
use Rattle.engine_model.specs.Refusals.{ApplyCounts, BackCounts}
use Rattle.engine_model.specs.Failing.{IsUnbegun, ApplyIdle, ApplyIntact, ApplyWaits}
use Rattle.engine_model.specs.Faults.{ApplyAnswers, ApplyExact, ApplySays, CommitAnswers, BackAnswers, BackExact, BackSays, MayStandHalf, Tries, FailsTwice, Dumps, Backs, HasSet, HasTaken, GaveSaved}
use Rattle.engine_model.specs.declared.answers.Applied.{Applied}
use Rattle.engine_model.specs.declared.answers.ApplyFault.{ApplyFault}
use Rattle.engine_model.specs.declared.answers.ApplyFault.TheVariants as ap
use Rattle.engine_model.specs.declared.answers.CommitFault.{CommitFault}
use Rattle.engine_model.specs.declared.answers.BackFault.{BackFault}
use Rattle.engine_model.specs.declared.answers.Checked.{Checked}
use Rattle.engine_model.specs.declared.answers.CheckFault.{CheckFault}
use Rattle.engine_core.specs.Committing.{IsRefusal}

module _ (tells honest : Type 0) (old new : HostView) where
  -- a change was tried
  pub record Applies (a : Asked) (answer : Result Applied ApplyFault) : Type 0 where
    pub says : ApplySays tells a old new answer
    pub counts : ApplyCounts old.kernel new.kernel answer
    pub answers : WhereSound honest old (ApplyAnswers a old new answer)
    -- also where the host isn't sound
    pub exact : honest → ApplyExact (Rose old.faults new.faults) (apply a (standing old.state)) new answer
    -- where the answer comes before anything was begun, and on an honest host whose count didn't rise also where it tells damage or
    -- other devices, the host is as it was
    pub unbegun : ApplyIdle tells a.now old new answer
    pub intact : honest → (Rose old.faults new.faults → ⊥) → ApplyIntact tells old new answer
    -- so it is where a change waits that isn't due, whatever is answered
    pub waits : ApplyWaits tells a.now old new
    pub exit : WhereSound honest old (ApplyExit a (entry_of old) (left_by new) (Rose old.faults new.faults) (RoseTwice old.faults new.faults) answer)
    pub reads : WhereSound honest old (ApplyExit a (at (standing old.state)) (Only (standing new.state)) (Rose old.faults new.faults) (RoseTwice old.faults new.faults) answer)
    pub kept : WhereSound honest old (Kept (Either (Settled a.now (entry_of old)) (Only (apply a (standing old.state)).after)) old new)
    -- what is left to wait was compared
    pub seen : WhereSound honest old (Compared a old new)
    -- where no checkpoint stood and nothing failed, each link that the change needn't touch is left alone on the way
    pub undisturbed : WhereSound honest old ((from to : NetData) → standing old.state ≡ restored_to from → merge from a.doc ≡ Ok to → (Rose old.faults new.faults → ⊥) → answer ≢ Err ap.OutOfMemory
        → (s : State) → new.stops.left_since old.stops.moment s → (net : NetData) × (s.net ≡ Some net) × IsUndisturbed from to net)
    -- that a change may stand half way is told only where a restoring was tried
    pub tries : Tries (MayStandHalf tells a old) old.faults old.kernel.refusals new answer
    -- and of a host fault only where the host failed twice, unless a change was to be taken back first
    pub twice : honest → FailsTwice (HasTaken a.now (standing old.state).cell) old.faults new answer
    -- it is dumped behind the last call; and where all is told as taken back, the network is the one from before
    pub dumps : Dumps tells a.opts.no_verify new answer
    pub backs : honest → Backs (recover a.now (standing old.state)).after.net new answer
    pub moment : old.stops.moment ≤ new.stops.moment
    pub later : old.faults ≤ new.faults

  -- the node was looked at, and nothing of it was changed
  pub record Looks (answer : Result Checked CheckFault) : Type 0 where
    pub says : CheckSays tells old new answer
    pub answers : honest → CheckAnswers (check (standing old.state)) old new answer
    pub exit : WhereSound honest old (CheckExit (entry_of old) (left_by new) answer)
    pub stays : Steps Stays old.stops new.stops
    pub same : tells → new.state ≡ old.state
    pub later : old.faults ≤ new.faults

  -- a commit was tried
  pub record Commits (now : ℕ) (answer : Result ⊤ CommitFault) : Type 0 where
    pub answers : CommitAnswers tells now old new answer
    -- a refusal, and a fault before the clearing, leave the host as it was
    pub unbegun : IfErr answer (λ fault. IsRefusal fault → IsUnbegun tells old new)
    pub exit : WhereSound tells old (CommitExit now (entry_of old) (left_by new) answer)
    pub reads : WhereSound tells old (CommitExit now (at (standing old.state)) (Only (standing new.state)) answer)
    pub kept : WhereSound tells old (Kept (Only (commit now (standing old.state)).after) old new)
    pub later : old.faults ≤ new.faults

  -- a rollback was tried
  pub record TakesBack (answer : Result ⊤ BackFault) : Type 0 where
    pub says : BackSays tells (rollback (standing old.state)).answer old new answer
    pub counts : BackCounts old.kernel new.kernel answer
    pub answers : WhereSound honest old (BackAnswers (HasSet (standing old.state).cell) (rollback (standing old.state)) old new answer)
    -- also where the host isn't sound; and it is done only where calls gave the saved network
    pub exact : honest → BackExact (rollback (standing old.state)).answer answer
    pub gave : tells → OnOk answer (GaveSaved new)
    -- what is answered before anything was begun leaves the host as it was
    pub unbegun : IfErr answer (λ fault. IsBefore fault → IsUnbegun tells old new)
    pub exit : WhereSound honest old (BackExit (rollback (standing old.state)).after (entry_of old) (left_by new) answer)
    pub reads : WhereSound honest old (BackExit (rollback (standing old.state)).after (at (standing old.state)) (Only (standing new.state)) answer)
    pub kept : WhereSound honest old (Kept (Only (rollback (standing old.state)).after) old new)
    pub later : old.faults ≤ new.faults
