-- What each answer says of kernel calls, which every host counts: how many were refused since the entry, and whether one was made.
use Rattle.std.specs.Prelude.{◌≡◌, Result, Ok, Err}
use Rattle.host_core.specs.HostView.{Kernel, WasRefused, NoneRefused}
use Rattle.engine_model.specs.Refusals.{NoCallMade, RefusedOnce, FewRefused}
use Rattle.engine_model.specs.declared.Left.TheVariants.{NotBegun, RolledBack, Pending as Unknown}
use Rattle.top_model.specs.Said.{nothing_there, waits_until}
use Rattle.top_model.specs.Orders.{Order, applying, applying_policy, rolling_back, recovering}
use Rattle.top_model.specs.Runs.{Run}
use Rattle.top_model.specs.Told.{Answer}
use Rattle.top_model.specs.declared.report.Cause.{Cause}
use Rattle.top_model.specs.declared.report.Cause.TheVariants.{DocRefused, MergeRefused, Pending, HostFault, InDoubt, KernelRefused, NotVerified, Damaged, HardwareDiffers, OutOfMemory}

-- Of an apply: a call that is told as refused is the last that was. Four answers don't tell of one and may follow one: a host fault that
-- leaves what stands open, damage, other devices and out of memory. It was a call of the change, behind which the restoring ended so, or
-- one of the restoring, where this was to be told before it.
abbrev pub ApplyCounted : Kernel → Kernel → Answer → Type 0
ApplyCounted old new (Ok said) = NoneRefused old new
ApplyCounted old new (Err (DocRefused fault)) = NoneRefused old new
ApplyCounted old new (Err (MergeRefused refused)) = NoneRefused old new
ApplyCounted old new (Err (NotVerified found left)) = NoneRefused old new
ApplyCounted old new (Err InDoubt) = NoneRefused old new
ApplyCounted old new (Err (HostFault NotBegun)) = NoCallMade old new
ApplyCounted old new (Err (HostFault RolledBack)) = NoneRefused old new
ApplyCounted old new (Err (HostFault Unknown)) = FewRefused old new
ApplyCounted old new (Err (KernelRefused k n left)) = WasRefused k n old new × (left ≡ RolledBack → RefusedOnce old new)
ApplyCounted old new (Err (Damaged area)) = FewRefused old new
ApplyCounted old new (Err (HardwareDiffers names)) = FewRefused old new
ApplyCounted old new (Err OutOfMemory) = FewRefused old new
-- an input that isn't read, and a change that waits
ApplyCounted old new answer = NoCallMade old new

-- The same of an apply of a policy, which settles first. Where the host doesn't tell its content, a change may wait behind that.
abbrev pub PolicyCounted : Type 0 → Kernel → Kernel → Answer → Type 0
PolicyCounted tells old new (Err (Pending deadline)) = NoneRefused old new × (tells → NoCallMade old new)
PolicyCounted tells old new answer = ApplyCounted old new answer

-- Of a rollback and a recovery: what isn't done comes before the first call, but for a fault behind it, a refused call and out of memory.
abbrev pub BackCounted : Kernel → Kernel → Answer → Type 0
BackCounted old new (Ok nothing_there) = NoCallMade old new
BackCounted old new (Ok (waits_until deadline)) = NoCallMade old new
BackCounted old new (Ok said) = NoneRefused old new
BackCounted old new (Err (HostFault NotBegun)) = NoCallMade old new
BackCounted old new (Err (HostFault left)) = NoneRefused old new
BackCounted old new (Err (KernelRefused k n left)) = WasRefused k n old new × RefusedOnce old new
BackCounted old new (Err OutOfMemory) = NoneRefused old new
BackCounted old new answer = NoCallMade old new

-- every other command makes no kernel call, nor do words and inputs that are refused before any call on the host
abbrev pub Counts : Run → Result Order Cause → Answer → Type 0
Counts r (Ok (applying doc opts)) answer = ApplyCounted r.host.kernel r.host_after.kernel answer
Counts r (Ok (applying_policy p opts)) answer = PolicyCounted r.host_tells r.host.kernel r.host_after.kernel answer
Counts r (Ok rolling_back) answer = BackCounted r.host.kernel r.host_after.kernel answer
Counts r (Ok recovering) answer = BackCounted r.host.kernel r.host_after.kernel answer
Counts r order answer = NoCallMade r.host.kernel r.host_after.kernel
