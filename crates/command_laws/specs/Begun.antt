-- What an apply of a policy did before its change: a recovery, and then a dump.
use Rattle.std.specs.Prelude.{◌≡◌, ◌≢◌, ◌≤◌, ℕ, Some, None, [], Result, Ok, IfOk, IfErr, OnOk, OnErr, IsErrOf}
use Rattle.net_model.specs.NetData.{NetData}
use Rattle.document_model.specs.declared.Doc.{Doc}
use Rattle.policy_model.specs.Values.{PolicyData}
use Rattle.host_core.specs.Faults.{HasFault}
use Rattle.host_core.specs.HostView.{HostView, dumped, IsLawfulHost}
use Rattle.host_core.specs.Stops.{Steps, Stays}
use Rattle.host_core.specs.declared.DumpFault.{DumpFault}
use Rattle.host_core.specs.declared.DumpFault.TheVariants as du
use Rattle.checkpoint_cell.specs.Steps.{Holds}
use Rattle.checkpoint_cell.specs.Settled.{standing}
use Rattle.engine_model.specs.Machine.{recover}
use Rattle.engine_model.specs.Sound.{Sound}
use Rattle.engine_model.specs.Answers.{IsBefore, IsClear}
use Rattle.engine_model.specs.Stations.{Only, Kept, at, entry_of, left_by}
use Rattle.engine_model.specs.Compared.{WaitsAsBefore}
use Rattle.engine_model.specs.Exit.{BackExit}
use Rattle.engine_model.specs.Refusals.{BackCounts}
use Rattle.engine_model.specs.Failing.{IsUnbegun}
use Rattle.engine_model.specs.Faults.{BackAnswers, BackExact, BackSays, HasTaken}
use Rattle.engine_model.specs.declared.Left.{Left}
use Rattle.engine_model.specs.declared.Left.TheVariants.{NotBegun, RolledBack}
use Rattle.engine_model.specs.declared.Recovered.{Recovered}
use Rattle.engine_model.specs.declared.Recovered.TheVariants.{Nothing, Waiting as Waits, Restored}
use Rattle.engine_model.specs.declared.BackFault.{BackFault}
use Rattle.engine_model.specs.declared.BackFault.TheVariants as ba
use Rattle.engine_model.specs.declared.ApplyFault.{ApplyFault}
use Rattle.engine_model.specs.declared.ApplyFault.TheVariants as ap
use Rattle.top_model.specs.Orders.{Text, document_on}
use Rattle.top_model.specs.declared.report.Cause.{Cause}
use Rattle.top_model.specs.declared.report.Cause.TheVariants.{HostFault, Damaged, OutOfMemory}

-- what a recovery promises
pub record Recovers (tells honest : Type 0) (now : ℕ) (old new : HostView) (result : Result Recovered BackFault) : Type 0 where
  pub says : BackSays tells (recover now (standing old.state)).answer old new result
  pub counts : BackCounts old.kernel new.kernel result
  pub unmade : IfOk result (λ done. done ≢ Restored → new.kernel ≡ old.kernel)
  pub answer : honest → Sound old → BackAnswers (HasTaken now (standing old.state).cell) (recover now (standing old.state)) old new result
  pub exact : honest → BackExact (recover now (standing old.state)).answer result
  pub exit : honest → Sound old → BackExit (recover now (standing old.state)).after (entry_of old) (left_by new) result
  pub reads : honest → Sound old → BackExit (recover now (standing old.state)).after (at (standing old.state)) (Only (standing new.state)) result
  pub kept : honest → Sound old → Kept (Only (recover now (standing old.state)).after) old new
  pub set_there : IsErrOf result ba.NoCheckpoint → ⊥
  pub nothing : tells → result ≡ Ok Nothing → (recover now (standing old.state)).answer ≡ Ok Nothing
  pub waiting : tells → (deadline : ℕ) → result ≡ Ok (Waits deadline) → (recover now (standing old.state)).answer ≡ Ok (Waits deadline)
  pub restored : tells → result ≡ Ok Restored → HasTaken now (standing old.state).cell
  pub cleared : tells → IfOk result (λ done. IsClear done → Holds None new)
  pub idle : IfOk result (λ done. done ≢ Restored → IsUnbegun tells old new)
  pub unbegun : IfErr result (λ fault. IsBefore fault → IsUnbegun tells old new)
  pub after : honest → OnOk result (standing new.state ≡ (recover now (standing old.state)).after)
  pub begun : tells → IfErr result (λ fault. (IsBefore fault → ⊥) → HasTaken now (standing old.state).cell)
  pub waits : tells → WaitsAsBefore old new
  pub moment : old.stops.moment ≤ new.stops.moment
  pub later : old.faults ≤ new.faults

-- what a dump of a lawful host promises
pub record Looks (tells honest : Type 0) (old new : HostView) (result : Result NetData DumpFault) : Type 0 where
  pub lawful : IsLawfulHost tells old
  pub net : honest → IfOk result (λ net. old.state.net ≡ Some net)
  pub damaged : tells → IsErrOf result du.Damaged → old.state.net ≡ None
  pub state : tells → new.state ≡ old.state
  pub stops : Steps Stays old.stops new.stops
  pub fresh : tells → IfOk result (λ net. new.fresh ≡ Some net)
  pub calls : OnOk result (new.kernel ≡ dumped old.kernel)
  pub kernel : OnErr result (new.kernel ≡ old.kernel)
  pub cause : HasFault old.faults new.faults du.Failed result

-- how it is told that nothing more was begun: a change that was taken back is told as that
abbrev pub side_of : Recovered → Left
side_of Nothing = NotBegun
side_of (Waits deadline) = NotBegun
side_of Restored = RolledBack

-- the recovery was done, and no checkpoint stands
pub record Begun (tells honest : Type 0) (now : ℕ) (done : Recovered) (old mid : HostView) : Type 0 where
  pub clear : IsClear done
  pub recovers : Recovers tells honest now old mid (Ok done)

-- and this network was dumped
pub record Seen (tells honest : Type 0) (now : ℕ) (done : Recovered) (old mid new : HostView) (net : NetData) : Type 0 where
  pub begun : Begun tells honest now done old mid
  pub looks : Looks tells honest mid new (Ok net)

-- on which the policy is this document
pub record Wants (tells honest : Type 0) (now : ℕ) (done : Recovered) (old mid new : HostView) (p : PolicyData) (doc : Doc) : Type 0 where
  pub net : NetData
  pub seen : Seen tells honest now done old mid new net
  pub reads : document_on p net ≡ Ok doc

-- ---- how the faults are told behind that

-- no network was dumped
abbrev pub look_cause : Recovered → DumpFault → Cause
look_cause done du.Failed = HostFault (side_of done)
look_cause done du.Damaged = Damaged 0
look_cause done du.OutOfMemory = OutOfMemory

-- nothing was begun behind the recovery
abbrev pub told_side : Recovered → ApplyFault → ApplyFault
told_side done (ap.HostFault NotBegun) = ap.HostFault (side_of done)
told_side done fault = fault

-- the notes before the line of a fault: a change that waits has none
abbrev pub fault_notes : ApplyFault → Text → Text
fault_notes (ap.Pending deadline) notes = []
fault_notes fault notes = notes
