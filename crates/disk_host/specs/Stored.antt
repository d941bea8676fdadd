-- What storing the network after a kernel call comes to.
use Rattle.std.specs.Prelude.{◌≡◌, ◌⊎◌, Result, Some, Err, IfOk, OnOk, OnErr, IsErrOf}
use Rattle.net_model.specs.declared.call.Call.{Call}
use Rattle.host_core.specs.DiskView.{DiskView, HasArea}
use Rattle.host_core.specs.Faults.{HasFault}
use Rattle.host_core.specs.Stops.{Steps, Stays}
use Rattle.disk_host.specs.Slots.{MaybeStored, KeepsCell}
use Rattle.disk_host.specs.Kept.{IsKept}
use Rattle.disk_host.specs.Writes.{Writes}
use Rattle.disk_host.specs.declared.kept.Kept.{Kept}
use Rattle.disk_host.specs.declared.changing.Missed.{Missed}
use Rattle.disk_host.specs.declared.changing.Missed.TheVariants.{Failed, OutOfMemory}

-- the network that was kept is stored, in place of the one before the call; what is kept after it is right, and before the
-- first write nothing changed
pub record Stores (tells : Type 0) (call : Call) (was : Kept) (old new : DiskView) (result : Result Kept Missed) : Type 0 where
  pub kept : tells → IfOk result (λ after. IsKept after new.areas.kernel)
  pub net : IfOk result (λ after. after.net ≡ was.net)
  pub sure : OnOk result (tells → HasArea 0 new.areas.kernel new)
  pub writes : OnOk result (tells → Writes call old.areas.kernel new.areas.kernel)
  pub maybe : tells → MaybeStored (Some was.net) old.areas new.areas
  pub missed : OnErr result ((result ≡ Err Failed) ⊎ (result ≡ Err OutOfMemory))
  pub same : IsErrOf result OutOfMemory → (tells → new.areas ≡ old.areas) × Steps Stays old.stops new.stops
  pub stops : tells → Steps (MaybeStored (Some was.net)) old.stops new.stops
  pub stops_cell : Steps KeepsCell old.stops new.stops
  pub cause : HasFault old.faults new.faults Failed result
