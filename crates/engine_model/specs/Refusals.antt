-- What each answer says of the kernel calls that were refused, and whether any was made. Every host counts them.
use Rattle.std.specs.Prelude.{◌≡◌, ◌⊎◌, Result, Ok, Err}
use Rattle.host_core.specs.Faults.{one_more}
use Rattle.host_core.specs.HostView.{Kernel, WasRefused, NoneRefused, dumped}
use Rattle.engine_model.specs.declared.answers.Left.TheVariants.{NotBegun, RolledBack, Pending}
use Rattle.engine_model.specs.declared.answers.Applied.{Applied}
use Rattle.engine_model.specs.declared.answers.ApplyFault.{ApplyFault}
use Rattle.engine_model.specs.declared.answers.ApplyFault.TheVariants as ap
use Rattle.engine_model.specs.declared.answers.BackFault.{BackFault}
use Rattle.engine_model.specs.declared.answers.BackFault.TheVariants as ba

-- no kernel call was made since: none is counted, unless dumps began the count anew
abbrev pub NoCallMade : Kernel → Kernel → Type 0
NoCallMade old new = (new ≡ old) ⊎ (new ≡ dumped old)

-- one call was refused since, and no other
abbrev pub RefusedOnce : Kernel → Kernel → Type 0
RefusedOnce old new = new.refusals ≡ one_more old.refusals

-- at most one was
abbrev pub FewRefused : Kernel → Kernel → Type 0
FewRefused old new = NoneRefused old new ⊎ RefusedOnce old new

-- Of an apply. Those that may come where the change isn't taken back may follow one refused call: one of the change, behind which
-- the restoring ended so, or one of the restoring, where this was to be told before it.
abbrev pub ApplyCounts : Kernel → Kernel → Result Applied ApplyFault → Type 0
ApplyCounts old new (Ok done) = NoneRefused old new
ApplyCounts old new (Err (ap.Pending deadline)) = NoCallMade old new
ApplyCounts old new (Err (ap.MergeRefused refused)) = NoneRefused old new
ApplyCounts old new (Err (ap.HostFault NotBegun)) = NoCallMade old new
ApplyCounts old new (Err (ap.HostFault RolledBack)) = NoneRefused old new
ApplyCounts old new (Err (ap.HostFault Pending)) = FewRefused old new
ApplyCounts old new (Err (ap.KernelRefused k n left)) = WasRefused k n old new × (left ≡ RolledBack → RefusedOnce old new)
ApplyCounts old new (Err (ap.NotVerified found left)) = NoneRefused old new
ApplyCounts old new (Err ap.InDoubt) = NoneRefused old new
ApplyCounts old new (Err (ap.Damaged area)) = FewRefused old new
ApplyCounts old new (Err (ap.HardwareDiffers names)) = FewRefused old new
ApplyCounts old new (Err ap.OutOfMemory) = FewRefused old new

-- Of what takes a change back.
abbrev pub BackCounts : {A : Type 0} → Kernel → Kernel → Result A BackFault → Type 0
BackCounts old new (Ok done) = NoneRefused old new
BackCounts old new (Err ba.NoCheckpoint) = NoCallMade old new
BackCounts old new (Err (ba.HostFault NotBegun)) = NoCallMade old new
BackCounts old new (Err (ba.HostFault RolledBack)) = NoneRefused old new
BackCounts old new (Err (ba.HostFault Pending)) = NoneRefused old new
BackCounts old new (Err (ba.KernelRefused k n left)) = WasRefused k n old new × RefusedOnce old new
BackCounts old new (Err (ba.Damaged area)) = NoCallMade old new
BackCounts old new (Err (ba.HardwareDiffers names)) = NoCallMade old new
BackCounts old new (Err ba.OutOfMemory) = NoneRefused old new
