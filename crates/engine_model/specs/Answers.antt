-- What the answers of a restoring say.
use Rattle.std.specs.Prelude.{◌≡◌, ℕ, true, Option, Some, Result, Ok, Err}
use Rattle.net_model.specs.NetData.{NetData}
use Rattle.host_core.specs.HostView.{State}
use Rattle.checkpoint_cell.specs.Cell.{Checkpoint}
use Rattle.checkpoint_cell.specs.Settled.{Standing, standing, taken_back}
use Rattle.engine_model.specs.Undone.{undone}
use Rattle.engine_model.specs.declared.answers.Left.TheVariants.{NotBegun, RolledBack, Pending}
use Rattle.engine_model.specs.declared.answers.BackFault.{BackFault}
use Rattle.engine_model.specs.declared.answers.BackFault.TheVariants.{NoCheckpoint, HostFault, KernelRefused, Damaged, HardwareDiffers, OutOfMemory}
use Rattle.engine_model.specs.declared.answers.Recovered.{Recovered}
use Rattle.engine_model.specs.declared.answers.Recovered.TheVariants.{Nothing, Waiting as Waits, Restored}

-- it came before any write and any kernel call
abbrev pub IsBefore : BackFault → Type 0
IsBefore NoCheckpoint = Unit {0}
IsBefore (HostFault NotBegun) = Unit {0}
IsBefore (HostFault RolledBack) = ⊥
IsBefore (HostFault Pending) = ⊥
IsBefore (KernelRefused k n left) = ⊥
IsBefore (Damaged area) = Unit {0}
IsBefore (HardwareDiffers names) = Unit {0}
IsBefore OutOfMemory = ⊥

-- it may come on an honest host that is sound
abbrev pub IsHealthy : BackFault → Type 0
IsHealthy NoCheckpoint = Unit {0}
IsHealthy (HostFault NotBegun) = Unit {0}
IsHealthy (HostFault RolledBack) = ⊥
IsHealthy (HostFault Pending) = Unit {0}
IsHealthy (KernelRefused k n left) = ⊥
IsHealthy (Damaged area) = ⊥
IsHealthy (HardwareDiffers names) = ⊥
IsHealthy OutOfMemory = Unit {0}

-- no checkpoint stands then
abbrev pub IsClear : Recovered → Type 0
IsClear Nothing = Unit {0}
IsClear (Waits deadline) = ⊥
IsClear Restored = Unit {0}

-- a change is to be taken back at this moment
pub record IsTaken (now : ℕ) (cell : Option Checkpoint) : Type 0 where
  pub checkpoint : Checkpoint
  pub is : cell ≡ Some checkpoint
  pub back : taken_back now checkpoint.phase checkpoint.made checkpoint.deadline ≡ true

-- what a restoring makes of what stood
abbrev pub IsUndone : State → Standing → Type 0
IsUndone entry stands = undone (standing entry) ≡ Some stands

-- what a restoring finds out of what stands, but for faults and memory: the saved network, or why it can't go back to it
abbrev pub Finds : {A : Type 0} → Result NetData BackFault → Result A BackFault → Type 0
Finds found (Ok done) = (saved : NetData) × (found ≡ Ok saved)
Finds found (Err NoCheckpoint) = ⊥
Finds found (Err (HostFault left)) = Unit {0}
Finds found (Err (KernelRefused k n left)) = ⊥
Finds found (Err (Damaged area)) = found ≡ Err (Damaged area)
Finds found (Err (HardwareDiffers names)) = found ≡ Err (HardwareDiffers names)
Finds found (Err OutOfMemory) = Unit {0}
