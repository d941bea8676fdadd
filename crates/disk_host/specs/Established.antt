-- What the making of a first network on a disk comes to.
use Rattle.std.specs.Prelude.{◌≡◌, ◌≢◌, Result, Some, None, get_or, OnOk, IsErrOf, IsSome}
use Rattle.net_model.specs.NetData.{NetData}
use Rattle.host_core.specs.DiskView.{DiskView, HasArea}
use Rattle.host_core.specs.Faults.{HasFault}
use Rattle.host_core.specs.Stops.{Steps, Stays}
use Rattle.host_core.specs.declared.MakeFault.{MakeFault}
use Rattle.host_core.specs.declared.MakeFault.TheVariants.{Exists, Failed, OutOfMemory}
use Rattle.call_journal.specs.Area.{kernel_net}
use Rattle.disk_host.specs.Slots.{IsShut, AreasMade}
use Rattle.disk_host.specs.Writes.{IsMadeOf}

-- the first network is stored behind a closed checkpoint, or it isn't for the reason that is given, but for `Failed`, which
-- leaves open how much of that was done
pub record Establishes (tells : Type 0) (first : NetData) (old new : DiskView) (result : Result (Unit {0}) MakeFault) : Type 0 where
  pub exists : tells → IsErrOf result Exists → IsSome (kernel_net old.areas.kernel)
  pub met : tells → OnOk result (kernel_net old.areas.kernel ≡ None)
  pub net : OnOk result (tells → (kernel_net new.areas.kernel ≡ Some first) × HasArea 0 new.areas.kernel new)
  -- it stands in a slot with an empty journal, which a closed gate ends
  pub slot : OnOk result (tells → IsMadeOf first new.areas.kernel)
  pub cell : OnOk result (tells → (get_or new.areas.cell 0 1 ≢ 1) × HasArea 1 new.areas.cell new)
  pub shut : OnOk result (tells → IsShut old.areas.cell new.areas.cell)
  pub stays : tells → IsSome (kernel_net old.areas.kernel) → Steps Stays old.stops new.stops × (new.areas ≡ old.areas)
  pub same : tells → IsErrOf result OutOfMemory → Steps Stays old.stops new.stops × (new.areas ≡ old.areas)
  pub maybe : tells → AreasMade first old.areas new.areas
  pub stops : tells → Steps (AreasMade first) old.stops new.stops
  pub cause : HasFault old.faults new.faults Failed result
