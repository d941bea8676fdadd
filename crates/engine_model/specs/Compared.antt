-- A change that is left to wait was compared before: of what stops leave, which changes wait, and what the host's last dump gave.
use Rattle.std.specs.Prelude.{◌≡◌, ◌⊎◌, false, Option, Some, None}
use Rattle.net_model.specs.NetData.{NetData}
use Rattle.host_core.specs.HostView.{State, HostView}
use Rattle.checkpoint_cell.specs.declared.Phase.TheVariants.{Waiting}
use Rattle.checkpoint_cell.specs.Cell.{Checkpoint, cell_of}
use Rattle.checkpoint_cell.specs.Settled.{standing}
use Rattle.engine_model.specs.Machine.{Asked, apply}
use Rattle.engine_model.specs.Stations.{left_by}

-- a change waits
abbrev pub IsWaiting : Option Checkpoint → Type 0
IsWaiting None = ⊥
IsWaiting (Some c) = c.phase ≡ Waiting

-- no stop leaves one
abbrev pub NoneWaits : HostView → Type 0
NoneWaits host = (s : State) → host.stops.may_leave s → IsWaiting (cell_of s.cell) → ⊥

-- each that a stop leaves could be left before
abbrev pub WaitsAsBefore : HostView → HostView → Type 0
WaitsAsBefore old new = (s : State) → new.stops.may_leave s → IsWaiting (cell_of s.cell) → left_by old (standing s)

-- this network stands, the last dump gave it, and no kernel call came after that dump
pub record IsSeen (net : NetData) (host : HostView) : Type 0 where
  pub fresh : host.fresh ≡ Some net
  pub stands : host.state.net ≡ Some net

-- so it is where a stop leaves one
abbrev pub WaitsSeen : NetData → HostView → Type 0
WaitsSeen net host = (s : State) → host.stops.may_leave s → IsWaiting (cell_of s.cell) → IsSeen net host

-- Of an apply that verifies, whatever it answers: a change that a stop leaves to wait could be left at the entry; or the last dump gave the
-- network that the change makes, and no kernel call came after that dump.
abbrev pub Compared : Asked → HostView → HostView → Type 0
Compared a old new = a.opts.no_verify ≡ false → (s : State) → new.stops.may_leave s → IsWaiting (cell_of s.cell)
    → left_by old (standing s) ⊎ (new.fresh ≡ (apply a (standing old.state)).after.net)
