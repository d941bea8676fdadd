-- What a fault of a restoring says on every host, from where the restoring began, and what an apply leaves that ends before its change.
use Rattle.std.specs.Prelude.{◌≡◌, ◌⊎◌, ℕ, Result, Err}
use Rattle.host_core.specs.Faults.{Rose}
use Rattle.host_core.specs.HostView.{HostView, WasRefused, NoneRefused}
use Rattle.host_core.specs.Stops.{Steps, Stays}
use Rattle.checkpoint_cell.specs.Settled.{standing}
use Rattle.engine_model.specs.Refusals.{NoCallMade, RefusedOnce}
use Rattle.engine_model.specs.Faults.{HasSet, HasTaken, IsDamaged, Differs, StillOpen, WantsBack}
use Rattle.engine_model.specs.declared.answers.Applied.{Applied}
use Rattle.engine_model.specs.declared.answers.ApplyFault.{ApplyFault}
use Rattle.engine_model.specs.declared.answers.ApplyFault.TheVariants as ap
use Rattle.engine_model.specs.declared.answers.Left.TheVariants.{NotBegun, RolledBack, Pending}
use Rattle.engine_model.specs.declared.answers.BackFault.{BackFault}
use Rattle.engine_model.specs.declared.answers.BackFault.TheVariants.{NoCheckpoint, HostFault, KernelRefused, Damaged, HardwareDiffers, OutOfMemory}

-- nothing was begun: no stop leaves more than before, the host reads as it did, and no kernel call was made
pub record IsUnbegun (tells : Type 0) (old new : HostView) : Type 0 where
  pub stops : Steps Stays old.stops new.stops
  pub same : tells → new.state ≡ old.state
  pub unmade : NoCallMade old.kernel new.kernel

-- Where the type is empty (⊥), it never tells this fault.
abbrev pub Fails : Type 0 → HostView → HostView → BackFault → Type 0
Fails tells old new NoCheckpoint = ⊥
Fails tells old new (HostFault NotBegun) = Rose old.faults new.faults × IsUnbegun tells old new
Fails tells old new (HostFault RolledBack) = ⊥
Fails tells old new (HostFault Pending) = Rose old.faults new.faults × NoneRefused old.kernel new.kernel
Fails tells old new (KernelRefused k n left) = (left ≡ Pending) × WasRefused k n old.kernel new.kernel × RefusedOnce old.kernel new.kernel × StillOpen tells new
Fails tells old new (Damaged area) = IsUnbegun tells old new × (tells → IsDamaged area old.state)
Fails tells old new (HardwareDiffers names) = IsUnbegun tells old new × (tells → Differs names new)
Fails tells old new OutOfMemory = NoneRefused old.kernel new.kernel × WantsBack tells old new

-- What an apply leaves that ends before its change. A change that waits and a fault before the first write leave the host as it was; so
-- does a refused document, on hosts that tell their content, unless a change was to be taken back first.
abbrev pub ApplyIdle : Type 0 → ℕ → HostView → HostView → Result Applied ApplyFault → Type 0
ApplyIdle tells now old new (Err (ap.Pending deadline)) = IsUnbegun tells old new
ApplyIdle tells now old new (Err (ap.HostFault NotBegun)) = IsUnbegun tells old new
ApplyIdle tells now old new (Err (ap.MergeRefused refused)) = (tells → HasTaken now (standing old.state).cell) ⊎ IsUnbegun tells old new
ApplyIdle tells now old new result = Unit {0}

-- What an apply leaves that tells damage or other devices: the host as it was. It is said on an honest host whose
-- count of faults didn't rise.
abbrev pub ApplyIntact : Type 0 → HostView → HostView → Result Applied ApplyFault → Type 0
ApplyIntact tells old new (Err (ap.Damaged area)) = IsUnbegun tells old new
ApplyIntact tells old new (Err (ap.HardwareDiffers names)) = IsUnbegun tells old new
ApplyIntact tells old new result = Unit {0}

-- What an apply leaves where a change waits that isn't due, whatever it answers: the host as it was. It is said on hosts that tell their
-- content.
abbrev pub ApplyWaits : Type 0 → ℕ → HostView → HostView → Type 0
ApplyWaits tells now old new = tells → HasSet (standing old.state).cell → (HasTaken now (standing old.state).cell → ⊥) → IsUnbegun tells old new
