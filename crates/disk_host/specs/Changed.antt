-- What a kernel call on the network of a disk comes to.
use Rattle.std.specs.Prelude.{◌≡◌, ◌≢◌, ℕ, Option, Result, Err, OnOk, OnErr, IsErrOf}
use Rattle.net_model.specs.declared.call.Call.{Call}
use Rattle.host_core.specs.DiskView.{DiskView}
use Rattle.host_core.specs.Faults.{HasFault}
use Rattle.host_core.specs.HostView.{Accepts, Refuses, MaybeCalled}
use Rattle.host_core.specs.Stops.{Steps, Stays}
use Rattle.call_journal.specs.Area.{kernel_net}
use Rattle.disk_host.specs.Slots.{state_of, KeepsCell, AreasCalled}
use Rattle.disk_host.specs.Settled.{IsSettled}
use Rattle.disk_host.specs.Kept.{IsKnown}
use Rattle.disk_host.specs.Writes.{Writes}
use Rattle.disk_host.specs.declared.kept.Kept.{Kept}
use Rattle.disk_host.specs.declared.changing.Missed.{Missed}
use Rattle.disk_host.specs.declared.changing.Missed.TheVariants.{Refused, Failed, Damaged}

-- the call was made, or it wasn't for the reason that is given, but for `Failed`, which leaves open whether it was; what is
-- kept after it is right
pub record Changes (tells : Type 0) (call : Call) (old new : DiskView) (kept : Option Kept) (result : Result (Unit {0}) Missed) : Type 0 where
  pub known : tells → IsKnown kept new.areas.kernel
  pub accepted : tells → OnOk result (Accepts call (kernel_net old.areas.kernel) (kernel_net new.areas.kernel))
  pub refused : tells → (k : ℕ) → IsErrOf result (Refused k) → Refuses call (kernel_net old.areas.kernel) k
  pub writes : OnOk result (tells → Writes call old.areas.kernel new.areas.kernel)
  pub maybe : tells → MaybeCalled call (state_of old.areas) (state_of new.areas)
  pub settled : result ≢ Err Failed → IsSettled tells new
  pub same : OnErr result (result ≢ Err Failed → (tells → new.areas ≡ old.areas) × Steps Stays old.stops new.stops)
  pub damaged : tells → IsErrOf result Damaged → ⊥
  pub stops : tells → Steps (AreasCalled call) old.stops new.stops
  pub stops_cell : Steps KeepsCell old.stops new.stops
  pub cause : HasFault old.faults new.faults Failed result
