-- What the counts of the engine's calls say of the answers of commands.
use Rattle.std.proofs.Common.{◌≡◌, inl, ℕ, Result, Ok, Err}
use Rattle.std.specs.Prelude.{◌≢◌, ⊤, IfOk}
use Rattle.host_core.specs.HostView.{Kernel}
use Rattle.engine_model.specs.Machine.{apply_fault}
use Rattle.engine_model.specs.Refusals.{ApplyCounts, BackCounts}
use Rattle.engine_model.specs.declared.Left.TheVariants.{NotBegun, RolledBack, Pending}
use Rattle.engine_model.specs.declared.Applied.{Applied}
use Rattle.engine_model.specs.declared.Recovered.{Recovered}
use Rattle.engine_model.specs.declared.Recovered.TheVariants.{Nothing, Waiting as Waits, Restored}
use Rattle.engine_model.specs.declared.ApplyFault.{ApplyFault}
use Rattle.engine_model.specs.declared.ApplyFault.TheVariants as fa
use Rattle.engine_model.specs.declared.BackFault.{BackFault}
use Rattle.engine_model.specs.declared.BackFault.TheVariants as ba
use Rattle.engine_model.proofs.lemmas.Refusals.{unmade_quiet}
use Rattle.top_model.specs.Said.{rolled_back, said_applied, said_recovered}
use Rattle.top_model.specs.Machine.{told, apply_cause, back_cause}
use Rattle.top_model.specs.Counts.{ApplyCounted, PolicyCounted, BackCounted}

-- nothing to restore, and a change that waits, are no restoring
pub nothing_other : Nothing ≢ Restored
nothing_other e = cc

pub waits_other : (deadline : ℕ) → Waits deadline ≢ Restored
waits_other deadline e = cc

-- of an apply
pub apply_counted : (old new : Kernel) (result : Result Applied ApplyFault) → ApplyCounts old new result → ApplyCounted old new (told said_applied apply_cause result)
apply_counted old new (Ok done) is = is
apply_counted old new (Err (fa.Pending deadline)) is = is
apply_counted old new (Err (fa.MergeRefused refused)) is = is
apply_counted old new (Err (fa.HostFault NotBegun)) is = is
apply_counted old new (Err (fa.HostFault RolledBack)) is = is
apply_counted old new (Err (fa.HostFault Pending)) is = is
apply_counted old new (Err (fa.KernelRefused k n left)) is = is
apply_counted old new (Err (fa.NotVerified found left)) is = is
apply_counted old new (Err fa.InDoubt) is = is
apply_counted old new (Err (fa.Damaged area)) is = is
apply_counted old new (Err (fa.HardwareDiffers names)) is = is
apply_counted old new (Err fa.OutOfMemory) is = is

-- of a fault of what takes a change back
back_fault_counted : (A : Type 0) (old new : Kernel) (fault : BackFault) → BackCounts {A = A} old new (Err fault) → BackCounted old new (Err (back_cause fault))
back_fault_counted A old new ba.NoCheckpoint is = is
back_fault_counted A old new (ba.HostFault NotBegun) is = is
back_fault_counted A old new (ba.HostFault RolledBack) is = is
back_fault_counted A old new (ba.HostFault Pending) is = is
back_fault_counted A old new (ba.KernelRefused k n left) is = is
back_fault_counted A old new (ba.Damaged area) is = is
back_fault_counted A old new (ba.HardwareDiffers names) is = is
back_fault_counted A old new ba.OutOfMemory is = is

pub rollback_counted : (old new : Kernel) (result : Result ⊤ BackFault) → BackCounts old new result → BackCounted old new (told (λ (x : ⊤). rolled_back) back_cause result)
rollback_counted old new (Ok x) is = is
rollback_counted old new (Err fault) is = back_fault_counted ⊤ old new fault is

-- a recovery that restores nothing touches nothing of the kernel
pub recover_counted : (old new : Kernel) (result : Result Recovered BackFault) → BackCounts old new result → IfOk result (λ done. done ≢ Restored → new ≡ old)
    → BackCounted old new (told said_recovered back_cause result)
recover_counted old new (Ok Nothing) is unmade = inl (unmade nothing_other)
recover_counted old new (Ok (Waits deadline)) is unmade = inl (unmade (waits_other deadline))
recover_counted old new (Ok Restored) is unmade = is
recover_counted old new (Err fault) is unmade = back_fault_counted Recovered old new fault is

-- of a recovery that failed, as an apply of a policy tells it
pub settling_counted : (tells : Type 0) (old new : Kernel) (fault : BackFault) → BackCounts {A = Recovered} old new (Err fault) → PolicyCounted tells old new (Err (apply_cause (apply_fault fault)))
settling_counted tells old new ba.NoCheckpoint is = inl (unmade_quiet old new is)
settling_counted tells old new (ba.HostFault NotBegun) is = is
settling_counted tells old new (ba.HostFault RolledBack) is = is
settling_counted tells old new (ba.HostFault Pending) is = inl is
settling_counted tells old new (ba.KernelRefused k n left) is = (is.0, λ back. is.1)
settling_counted tells old new (ba.Damaged area) is = inl (unmade_quiet old new is)
settling_counted tells old new (ba.HardwareDiffers names) is = inl (unmade_quiet old new is)
settling_counted tells old new ba.OutOfMemory is = inl is
