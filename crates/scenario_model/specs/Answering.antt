-- What a run answers on an honest host.
use Rattle.std.specs.Prelude.{◌≡◌, ℕ, IsSome, List, Result, Ok, Err}
use Rattle.net_model.specs.NetData.{NetData}
use Rattle.net_model.specs.declared.Link.{Link}
use Rattle.document_model.specs.declared.Doc.{Doc}
use Rattle.document_model.specs.declared.Refused.{Refused as Refusal}
use Rattle.merge_model.specs.declared.fault.MergeFault.TheVariants as me
use Rattle.host_core.specs.Faults.{Rose}
use Rattle.host_core.specs.HostView.{HostView}
use Rattle.host_core.specs.declared.MakeFault.{MakeFault}
use Rattle.host_core.specs.declared.MakeFault.TheVariants as ma
use Rattle.host_core.specs.declared.DumpFault.TheVariants as du
use Rattle.checkpoint_cell.specs.Settled.{standing, restored_to}
use Rattle.engine_model.specs.declared.answers.ApplyFault.TheVariants as ap
use Rattle.engine_model.specs.declared.answers.BackFault.TheVariants as ba
use Rattle.scenario_model.specs.Asking.{first_net, both_merged}
use Rattle.scenario_model.specs.Counts.{CountsOf, IsPlanned}
use Rattle.scenario_model.specs.declared.work.Summary.{Summary}
use Rattle.scenario_model.specs.declared.work.WorkFault.{WorkFault}
use Rattle.scenario_model.specs.declared.work.WorkFault.TheVariants.{Make, Dump, Apply, Merge, Back, OutOfMemory}

-- From this network both documents were applied, one after the other. The last network stands alone, and the summary is of
-- it. The calls are those of plans from the first network to what the first document makes of it, and from there.
pub record IsRun (from : NetData) (first second : Doc) (summary : Summary) (new : HostView) : Type 0 where
  pub middle : NetData
  pub last : NetData
  pub first_plan : IsPlanned first from middle summary.first_calls
  pub second_plan : IsPlanned second middle last summary.second_calls
  pub counts : CountsOf last summary
  pub stands : standing new.state ≡ restored_to last

-- Why the first network wasn't made.
abbrev pub MakeAnswers : HostView → HostView → MakeFault → Type 0
MakeAnswers old new ma.Exists = IsSome old.state.net
MakeAnswers old new ma.Failed = Rose old.faults new.faults
MakeAnswers old new ma.OutOfMemory = Unit {0}

-- Why a step behind it failed, where the documents make this, from when the host had counted so many faults. A fault with no
-- way never comes.
abbrev pub StepAnswers : Result NetData Refusal → ℕ → HostView → WorkFault → Type 0
StepAnswers made faults new (Make fault) = ⊥
StepAnswers made faults new (Dump du.Failed) = Rose faults new.faults
StepAnswers made faults new (Dump du.Damaged) = ⊥
StepAnswers made faults new (Dump du.OutOfMemory) = Unit {0}
StepAnswers made faults new (Apply (ap.Pending deadline)) = ⊥
StepAnswers made faults new (Apply (ap.MergeRefused refused)) = made ≡ Err refused
StepAnswers made faults new (Apply (ap.HostFault left)) = Rose faults new.faults
StepAnswers made faults new (Apply (ap.KernelRefused k n left)) = ⊥
StepAnswers made faults new (Apply (ap.NotVerified found left)) = ⊥
StepAnswers made faults new (Apply ap.InDoubt) = Rose faults new.faults
StepAnswers made faults new (Apply (ap.Damaged area)) = ⊥
StepAnswers made faults new (Apply (ap.HardwareDiffers names)) = ⊥
StepAnswers made faults new (Apply ap.OutOfMemory) = Unit {0}
StepAnswers made faults new (Merge (me.Refused refused)) = made ≡ Err refused
StepAnswers made faults new (Merge me.OutOfMemory) = Unit {0}
StepAnswers made faults new (Back ba.NoCheckpoint) = ⊥
StepAnswers made faults new (Back (ba.HostFault left)) = Rose faults new.faults
StepAnswers made faults new (Back (ba.KernelRefused k n left)) = ⊥
StepAnswers made faults new (Back (ba.Damaged area)) = ⊥
StepAnswers made faults new (Back (ba.HardwareDiffers names)) = ⊥
StepAnswers made faults new (Back ba.OutOfMemory) = Unit {0}
StepAnswers made faults new OutOfMemory = Unit {0}

-- of a run behind the making, from this network
abbrev pub RunAnswers : NetData → Doc → Doc → ℕ → HostView → Result Summary WorkFault → Type 0
RunAnswers from first second faults new (Ok summary) = IsRun from first second summary new
RunAnswers from first second faults new (Err fault) = StepAnswers (both_merged from first second) faults new fault

-- of the whole run
abbrev pub WorkAnswers : List Link → Doc → Doc → HostView → HostView → Result Summary WorkFault → Type 0
WorkAnswers devices first second old new (Err (Make fault)) = MakeAnswers old new fault
WorkAnswers devices first second old new result = RunAnswers (first_net devices) first second old.faults new result

-- where there was no network and no fault came: done, a refusal of a merge, or out of memory
abbrev pub IsCalm : Result Summary WorkFault → Type 0
IsCalm (Ok summary) = Unit {0}
IsCalm (Err (Make ma.OutOfMemory)) = Unit {0}
IsCalm (Err (Dump du.OutOfMemory)) = Unit {0}
IsCalm (Err (Apply (ap.MergeRefused refused))) = Unit {0}
IsCalm (Err (Apply ap.OutOfMemory)) = Unit {0}
IsCalm (Err (Merge fault)) = Unit {0}
IsCalm (Err (Back ba.OutOfMemory)) = Unit {0}
IsCalm (Err OutOfMemory) = Unit {0}
IsCalm (Err fault) = ⊥
