-- What the answer of a run says on every host, of which some tell what they hold: each fault by the clause of its call.
use Rattle.std.specs.Prelude.{◌≡◌, ◌≤◌, ◌⊎◌, ⊤, ℕ, Some, None, IsSome, Result, Ok, Err}
use Rattle.net_model.specs.NetData.{NetData}
use Rattle.document_model.specs.declared.Doc.{Doc}
use Rattle.document_model.specs.declared.Refused.{Refused as Refusal}
use Rattle.merge_model.specs.declared.fault.MergeFault.TheVariants as me
use Rattle.host_core.specs.Faults.{Rose}
use Rattle.host_core.specs.HostView.{State, Kernel, HostView, NoneRefused}
use Rattle.host_core.specs.Stops.{Steps, Stays}
use Rattle.host_core.specs.declared.MakeFault.{MakeFault}
use Rattle.host_core.specs.declared.MakeFault.TheVariants as ma
use Rattle.host_core.specs.declared.DumpFault.{DumpFault}
use Rattle.host_core.specs.declared.DumpFault.TheVariants as du
use Rattle.checkpoint_cell.specs.Settled.{standing}
use Rattle.merge_model.specs.MergedNet.{merge}
use Rattle.engine_model.specs.Machine.{Asked, rollback}
use Rattle.engine_model.specs.Refusals.{ApplyCounts, BackCounts}
use Rattle.engine_model.specs.Faults.{ApplySays, BackSays}
use Rattle.engine_model.specs.declared.answers.ApplyFault.{ApplyFault}
use Rattle.engine_model.specs.declared.answers.BackFault.{BackFault}
use Rattle.scenario_model.specs.Asking.{IsChange}
use Rattle.scenario_model.specs.Counts.{CountsOf, HasPlan}
use Rattle.scenario_model.specs.declared.work.Summary.{Summary}
use Rattle.scenario_model.specs.declared.work.WorkFault.{WorkFault}
use Rattle.scenario_model.specs.declared.work.WorkFault.TheVariants.{Make, Dump, Apply, Merge, Back, OutOfMemory}

-- where a call of the run began: what the host read as, and what it counted
pub record Past : Type 0 where
  pub state : State
  pub faults : ℕ
  pub kernel : Kernel
  pub moment : ℕ

abbrev pub past_of : HostView → Past
past_of host = record { state = host.state; faults = host.faults; kernel = host.kernel; moment = host.stops.moment }

-- the host there; nothing is said of what a stop could leave
abbrev pub host_at : Past → HostView
host_at past = record {
  state = past.state;
  stops = record { moment = past.moment; may_leave = λ s. ⊥; left_since = λ t s. ⊥ };
  faults = past.faults;
  kernel = past.kernel;
  settled = Unit {0};
  fresh = None;
}

-- nothing is changed
pub record IsUnmoved (old new : HostView) : Type 0 where
  pub stops : Steps Stays old.stops new.stops
  pub state : new.state ≡ old.state

-- a later moment of the run, before which no call was refused
pub record IsPast (tells : Type 0) (start past : Past) : Type 0 where
  pub faults : start.faults ≤ past.faults
  pub quiet : NoneRefused start.kernel past.kernel
  pub moment : tells → start.moment ≤ past.moment

-- one of the changes was answered so, from a later moment of the run
pub record ChangeSays (tells : Type 0) (first second : Doc) (start : Past) (new : HostView) (fault : ApplyFault) : Type 0 where
  pub asked : Asked
  pub is : IsChange first second asked
  pub past : Past
  pub later : IsPast tells start past
  pub says : ApplySays tells asked (host_at past) new (Err fault)
  pub counts : ApplyCounts past.kernel new.kernel (Err fault)

-- the taking back was answered so
pub record ReturnSays (tells : Type 0) (start : Past) (new : HostView) (fault : BackFault) : Type 0 where
  pub past : Past
  pub later : IsPast tells start past
  pub says : BackSays tells (rollback (standing past.state)).answer (host_at past) new (Err fault)
  pub counts : BackCounts {A = ⊤} past.kernel new.kernel (Err fault)

-- one of the documents breaks a rule on what was dumped last
pub record MergeSays (tells : Type 0) (first second : Doc) (new : HostView) (refused : Refusal) : Type 0 where
  pub from : NetData
  pub dumped : tells → new.fresh ≡ Some from
  pub breaks : (merge from first ≡ Err refused) ⊎ (merge from second ≡ Err refused)

-- the counts are those of what was dumped last, and of plans
pub record SummarySays (tells : Type 0) (first second : Doc) (new : HostView) (summary : Summary) : Type 0 where
  pub net : NetData
  pub dumped : tells → new.fresh ≡ Some net
  pub counts : CountsOf net summary
  pub first_plan : HasPlan first summary.first_calls
  pub second_plan : HasPlan second summary.second_calls

-- why the first network wasn't made
abbrev pub MakeSays : Type 0 → HostView → HostView → MakeFault → Type 0
MakeSays tells old new ma.Exists = tells → IsSome old.state.net × IsUnmoved old new
MakeSays tells old new ma.Failed = Rose old.faults new.faults
MakeSays tells old new ma.OutOfMemory = tells → IsUnmoved old new

-- why the host gave no network
abbrev pub DumpSays : Type 0 → ℕ → HostView → DumpFault → Type 0
DumpSays tells faults new du.Failed = Rose faults new.faults
DumpSays tells faults new du.Damaged = tells → new.state.net ≡ None
DumpSays tells faults new du.OutOfMemory = Unit {0}

-- why a step behind the making failed, from where the run began
abbrev pub StepSays : Type 0 → Doc → Doc → Past → HostView → WorkFault → Type 0
StepSays tells first second start new (Make fault) = ⊥
StepSays tells first second start new (Dump fault) = DumpSays tells start.faults new fault
StepSays tells first second start new (Apply fault) = ChangeSays tells first second start new fault
StepSays tells first second start new (Merge (me.Refused refused)) = MergeSays tells first second new refused
StepSays tells first second start new (Merge me.OutOfMemory) = Unit {0}
StepSays tells first second start new (Back fault) = ReturnSays tells start new fault
StepSays tells first second start new OutOfMemory = Unit {0}

-- of a run behind the making
abbrev pub RunSays : Type 0 → Doc → Doc → Past → HostView → Result Summary WorkFault → Type 0
RunSays tells first second start new (Ok summary) = SummarySays tells first second new summary
RunSays tells first second start new (Err fault) = StepSays tells first second start new fault

-- of the whole run
abbrev pub WorkSays : Type 0 → Doc → Doc → HostView → HostView → Result Summary WorkFault → Type 0
WorkSays tells first second old new (Err (Make fault)) = MakeSays tells old new fault
WorkSays tells first second old new result = RunSays tells first second (past_of old) new result
