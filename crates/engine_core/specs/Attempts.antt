-- What a change leaves on its way, and why one misses.
use Rattle.std.specs.Prelude.{◌≡◌, ◌⊎◌, ℕ, if◌then◌else◌, Bool, true, List, Option, Some, None}
use Rattle.net_model.specs.NetData.{NetData}
use Rattle.net_model.specs.declared.Call.{Call}
use Rattle.kernel_model.specs.Runs.{Runs}
use Rattle.host_core.specs.HostView.{HostView}
use Rattle.checkpoint_cell.specs.declared.Phase.TheVariants.{Waiting}
use Rattle.checkpoint_cell.specs.Cell.{Checkpoint, applying, in_phase}
use Rattle.checkpoint_cell.specs.Settled.{Standing, restored_to}
use Rattle.engine_model.specs.Undone.{stand}
use Rattle.engine_core.specs.declared.missed.Missed.{Missed}
use Rattle.engine_core.specs.declared.missed.Missed.TheVariants as missed

-- the cell of a change that is made, and of one that is to wait when it is made
abbrev pub sealed : Bool → ℕ → ℕ → NetData → Option Checkpoint
sealed no_commit made deadline from = Some (if no_commit then in_phase Waiting (applying made deadline from) else applying made deadline from)

-- the state after it
abbrev pub done : Bool → ℕ → ℕ → NetData → NetData → Standing
done no_commit made deadline from to = stand to (if no_commit then Some (in_phase Waiting (applying made deadline from)) else None)

-- the network before, or with a change that is to wait the state after it
abbrev pub IsOnWay : Bool → ℕ → ℕ → NetData → NetData → Standing → Type 0
IsOnWay no_commit made deadline from to stands = (stands ≡ restored_to from) ⊎ ((no_commit ≡ true) × (stands ≡ done true made deadline from to))

-- the network before, or the state after
abbrev pub IsEither : Bool → ℕ → ℕ → NetData → NetData → Standing → Type 0
IsEither no_commit made deadline from to stands = (stands ≡ restored_to from) ⊎ (stands ≡ done no_commit made deadline from to)

-- a failure that an honest host may bring
abbrev pub IsFault : Missed → Type 0
IsFault missed.Failed = Unit {0}
IsFault (missed.Refused k n) = ⊥
IsFault missed.Damaged = ⊥
IsFault (missed.Differs found) = ⊥
IsFault missed.OutOfMemory = Unit {0}

-- where this network stands, and the calls lead from it to another
abbrev pub WhereRuns : List Call → NetData → NetData → HostView → Type 0 → Type 0
WhereRuns calls from to host says = host.state.net ≡ Some from → Runs calls from to → says
