-- What the steps of a restoring say.
use Rattle.std.specs.Prelude.{◌≡◌, ◌≢◌, ⊤, List, [], length, Some, None, IsSome, Result, Ok, Err, Vec}
use Rattle.std.specs.declared.alloc.Global.{Global}
use Rattle.net_model.specs.Hardware.{hardware}
use Rattle.net_model.specs.NetData.{NetData, IsNet}
use Rattle.net_model.specs.declared.Call.{Call}
use Rattle.kernel_model.specs.Runs.{Runs}
use Rattle.plan_model.specs.Plans.{IsPlan}
use Rattle.host_core.specs.HostView.{HostView, NoneRefused}
use Rattle.checkpoint_cell.specs.Cell.{Checkpoint, saved_net}
use Rattle.checkpoint_cell.specs.Settled.{restored_to}
use Rattle.checkpoint_cell.specs.Steps.{Holds}
use Rattle.engine_model.specs.Answers.{IsBefore, IsHealthy, Finds}
use Rattle.engine_model.specs.Differing.{differing}
use Rattle.engine_model.specs.Failing.{Fails}
use Rattle.engine_model.specs.Faults.{GaveSaved, StillOpen}
use Rattle.engine_model.specs.Machine.{saved_on}
use Rattle.engine_model.specs.Sound.{WhereSound}
use Rattle.engine_model.specs.Stations.{Ends}
use Rattle.engine_model.specs.declared.answers.BackFault.{BackFault}
use Rattle.engine_model.specs.declared.answers.BackFault.TheVariants.{HardwareDiffers, OutOfMemory}
use Rattle.engine_restore.specs.Given.{IsGiven}

-- a checkpoint with this network is held
pub record IsSet (saved : NetData) (host : HostView) : Type 0 where
  pub checkpoint : Checkpoint
  pub holds : Holds (Some checkpoint) host
  pub is_saved : checkpoint.net ≡ Some saved

-- a fault of a restoring: what it says on every host, that a sound host gives no other, and that it is found out of what stands
pub record Hinders (tells honest : Type 0) (old new : HostView) (fault : BackFault) : Type 0 where
  pub fails : Fails tells old new fault
  pub healthy : WhereSound honest old (IsHealthy fault)
  pub exact : honest → (checkpoint : Checkpoint) → Holds (Some checkpoint) old → Finds {A = ⊤} (saved_on checkpoint.net old.state.net) (Err fault)

-- ---- before anything is begun

-- a dump gave this network
pub record IsDumped (tells honest : Type 0) (old new : HostView) (net : NetData) : Type 0 where
  pub stands : honest → old.state.net ≡ Some net
  pub found : tells → IsSome old.state.net
  pub settled : new.settled
  pub fresh : tells → new.fresh ≡ Some net
  pub zero : new.kernel.calls ≡ 0

-- from the network that was found to the saved one: a plan, or the devices on which they differ
abbrev pub WayBack : NetData → NetData → Result (Vec Call Global) BackFault → Type 0
WayBack found saved (Ok calls) = IsNet found × (hardware saved.links ≡ hardware found.links) × IsPlan found saved calls.items
WayBack found saved (Err (HardwareDiffers names)) = (differing saved found ≡ names) × (names ≢ [])
WayBack found saved (Err OutOfMemory) = Unit {0}
WayBack found saved (Err fault) = ⊥

-- the calls lead from the network that stands to the one of this checkpoint
pub record LeadsBack (calls : List Call) (checkpoint : Checkpoint) (old new : HostView) : Type 0 where
  pub from : NetData
  pub saved : NetData
  pub is_from : new.state.net ≡ Some from
  pub is_saved : checkpoint.net ≡ Some saved
  pub built : IsNet from
  pub runs : Runs calls from saved
  pub finds : saved_on checkpoint.net old.state.net ≡ Ok saved

-- these calls are to be made next: none was made since the dump
pub record IsReady (tells honest : Type 0) (calls : List Call) (old new : HostView) : Type 0 where
  pub settled : new.settled
  pub zero : new.kernel.calls ≡ 0
  pub found : tells → IsSome old.state.net
  pub given : tells → IsGiven calls new
  pub leads : honest → (checkpoint : Checkpoint) → Holds (Some checkpoint) old → LeadsBack calls checkpoint old new

-- ---- the calls and the clearing

-- all calls were made, and the checkpoint was cleared
pub record Undoes (tells honest : Type 0) (calls : List Call) (old new : HostView) : Type 0 where
  pub cleared : tells → Holds None new
  pub ends : honest → (from saved : NetData) → old.state.net ≡ Some from → Runs calls from saved → Ends (restored_to saved) new
  pub quiet : NoneRefused old.kernel new.kernel
  pub made : new.kernel.calls ≡ length calls
  pub idle : tells → calls ≡ [] → new.fresh ≡ old.fresh
  pub saved : tells → saved_net new.state.cell ≡ saved_net old.state.cell

-- a fault on the way, once the change was taken up
pub record Interrupts (tells honest : Type 0) (calls : List Call) (old new : HostView) (fault : BackFault) : Type 0 where
  pub fails : StillOpen tells old → Fails tells old new fault
  pub begun : IsBefore fault → ⊥
  pub healthy : honest → (from saved : NetData) → old.state.net ≡ Some from → Runs calls from saved → IsHealthy fault

-- ---- the whole

-- the saved network stands, and no checkpoint
pub record Restores (tells honest : Type 0) (old new : HostView) : Type 0 where
  pub cleared : tells → Holds None new
  pub ends : honest → (checkpoint : Checkpoint) (saved : NetData) → Holds (Some checkpoint) old → checkpoint.net ≡ Some saved → Ends (restored_to saved) new
  pub exact : honest → (checkpoint : Checkpoint) → Holds (Some checkpoint) old → (saved : NetData) × (saved_on checkpoint.net old.state.net ≡ Ok saved)
  pub quiet : NoneRefused old.kernel new.kernel
  pub gave : tells → GaveSaved new
  pub saved : tells → saved_net new.state.cell ≡ saved_net old.state.cell
  -- also where the host isn't sound
  pub reads : honest → new.state.net ≡ saved_net new.state.cell
