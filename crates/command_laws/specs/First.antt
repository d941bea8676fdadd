-- The making of the first network, of the devices of a hardware list.
use Rattle.std.specs.Prelude.{◌≡◌, ◌≤◌, ℕ, Bool, true, List, length, None, IsSome, Result, Ok, Err}
use Rattle.net_model.specs.declared.Link.{Link}
use Rattle.host_core.specs.Faults.{Rose}
use Rattle.host_core.specs.HostView.{HostView, IsMade, MaybeMade}
use Rattle.host_core.specs.Stops.{Steps, Stays}
use Rattle.engine_model.specs.declared.Left.TheVariants.{NotBegun}
pub use Rattle.scenario_model.specs.Asking.{is_hardware}
use Rattle.order_reading.specs.declared.order.Order.{Order}
use Rattle.order_reading.specs.declared.order.Order.TheVariants.{Init, Generate}
use Rattle.top_model.specs.Machine.{first_net}
use Rattle.top_model.specs.declared.report.Cause.{Cause}
use Rattle.top_model.specs.declared.report.Cause.TheVariants.{Exists, HostFault, OutOfMemory}

-- the links of an order that begins with them
abbrev pub has_hardware : Order → Bool
has_hardware (Init links) = is_hardware links
has_hardware (Generate devices first second) = is_hardware devices
has_hardware _ = true

-- nothing is changed
pub record Unmoved (old new : HostView) : Type 0 where
  pub stops : Steps Stays old.stops new.stops
  pub state : new.state ≡ old.state

-- the number of its links where there was no network and this one is there, or why it isn't
abbrev pub IsMakingOf : Type 0 → List Link → HostView → HostView → Result ℕ Cause → Type 0
IsMakingOf tells links old new (Ok count) = (count ≡ length links) × (tells → old.state.net ≡ None) × (tells → IsMade (first_net links) old.state new)
IsMakingOf tells links old new (Err Exists) = tells → IsSome old.state.net
IsMakingOf tells links old new (Err (HostFault NotBegun)) = Rose old.faults new.faults
IsMakingOf tells links old new (Err OutOfMemory) = tells → Unmoved old new
IsMakingOf tells links old new (Err _) = ⊥

-- at the answer, and at each moment on the way to it
pub record Makes (tells : Type 0) (links : List Link) (old new : HostView) (result : Result ℕ Cause) : Type 0 where
  pub answer : IsMakingOf tells links old new result
  pub stays : tells → IsSome old.state.net → Unmoved old new
  pub maybe : tells → MaybeMade (first_net links) old.state new.state
  pub stops : tells → Steps (MaybeMade (first_net links)) old.stops new.stops
  pub kernel : new.kernel ≡ old.kernel
  pub later : old.faults ≤ new.faults
