-- What the commands may leave.
use Rattle.std.specs.Prelude.{◌≡◌, ◌⊎◌, ℕ, false, List, ◌++◌, Option, Some, None}
use Rattle.net_model.specs.Hardware.{hardware}
use Rattle.net_model.specs.NetData.{NetData, IsNet}
use Rattle.net_model.specs.declared.Call.{Call}
use Rattle.kernel_model.specs.Runs.{Runs}
use Rattle.host_core.specs.HostView.{State, HostView}
use Rattle.host_core.specs.Stops.{Steps}
use Rattle.checkpoint_cell.specs.declared.Phase.TheVariants.{Applying, Waiting}
use Rattle.checkpoint_cell.specs.Cell.{Checkpoint, cell_of, is_due, in_phase}
use Rattle.checkpoint_cell.specs.Settled.{Standing, standing, settled, Alike}
use Rattle.engine_model.specs.Sound.{Fit, Sound}

-- it settles like one of these
pub record Near (stations : Standing → Type 0) (stands : Standing) : Type 0 where
  pub station : Standing
  pub is : stations station
  pub like : Alike station stands

-- ---- sets of what may stand

abbrev pub Stands : Type 1
Stands = Standing → Type 0

-- what a stop now may leave
abbrev pub left_by : HostView → Stands
left_by host stands = (s : State) × host.stops.may_leave s × (standing s ≡ stands)

-- where a command begins: what a stop there may leave, and what the host reads as
pub record Entry : Type 1 where
  pub left : Stands
  pub reads : Standing

abbrev pub entry_of : HostView → Entry
entry_of host = record { left = left_by host; reads = standing host.state }

-- this alone is left, and reads
abbrev pub at : Standing → Entry
at e = record { left = λ stands. stands ≡ e; reads = e }

-- all of it settles like one of these
abbrev pub Within : Stands → Stands → Type 0
Within left stations = (stands : Standing) → left stands → Near stations stands

-- this alone
abbrev pub Only : Standing → Stands
Only station stands = stands ≡ station

-- what could be left at the entry, and of it what has the checkpoint as it reads
abbrev pub Before : Entry → Stands
Before entry = entry.left

abbrev pub BeforeAsRead : Entry → Stands
BeforeAsRead entry stands = entry.left stands × (stands.cell ≡ entry.reads.cell)

-- what a recovery at this moment makes of what is read
abbrev pub Settled : ℕ → Entry → Stands
Settled now entry stands = settled now entry.reads ≡ Some stands

abbrev pub Either : Stands → Stands → Stands
Either a b stands = a stands ⊎ b stands

-- ---- at every moment

-- what a stop leaves settles like what could be left before, or like one of these; and it can be recovered from, where that could
pub record Leads (stations : Standing → Type 0) (old new : State) : Type 0 where
  pub like : Alike (standing old) (standing new) ⊎ Near stations (standing new)
  pub fit : Fit old → Fit new

-- at each moment on the way a stop leaves what settles like what could be left before, or like one of these, and
-- can be recovered from; and the host is sound at the end
pub record Kept (stations : Standing → Type 0) (old new : HostView) : Type 0 where
  pub during : Steps (Leads stations) old.stops new.stops
  pub sound : Sound new

-- nothing else stands
abbrev pub Ends : Standing → HostView → Type 0
Ends stands host = (s : State) → host.stops.may_leave s → standing s ≡ stands

-- all that stands settles like one of these
abbrev pub AllNear : (Standing → Type 0) → HostView → Type 0
AllNear stations host = (s : State) → host.stops.may_leave s → Near stations (standing s)

-- a change waits, and its time isn't up
pub record Waits (now : ℕ) (cell : Option Checkpoint) : Type 0 where
  pub checkpoint : Checkpoint
  pub is : cell ≡ Some checkpoint
  pub waiting : checkpoint.phase ≡ Waiting
  pub in_time : is_due checkpoint.made checkpoint.deadline now ≡ false

abbrev pub committed : State → Standing
committed entry = record { net = entry.net; cell = None }

-- the committed change, where one waits
abbrev pub IsCommitted : ℕ → State → Standing → Type 0
IsCommitted now entry stands = Waits now (cell_of entry.cell) × (stands ≡ committed entry)

-- what a recovery at this moment makes of what stood
abbrev pub IsSettled : ℕ → State → Standing → Type 0
IsSettled now entry stands = settled now (standing entry) ≡ Some stands

-- a change that is taken up waits as before, or is being made
pub record TakeUpStep (checkpoint : Checkpoint) (old new : State) : Type 0 where
  pub net : new.net ≡ old.net
  pub cell : (cell_of new.cell ≡ Some checkpoint) ⊎ (cell_of new.cell ≡ Some (in_phase Applying checkpoint))

-- the checkpoint area stays, and a network leads to one of the same devices
pub record RunStep (old new : State) : Type 0 where
  pub cell : new.cell ≡ old.cell
  pub net : (from : NetData) → old.net ≡ Some from → IsNet from → (to : NetData) × (new.net ≡ Some to) × IsNet to × (hardware to.links ≡ hardware from.links)

-- calls that are carried out from a network so far lead to this one
pub record IsFront (calls : List Call) (from net : NetData) : Type 0 where
  pub front : List Call
  pub rest : List Call
  pub is : front ++ rest ≡ calls
  pub runs : Runs front from net

-- from this network the calls are carried out up to some of them
abbrev pub FrontStep : List Call → NetData → State → State → Type 0
FrontStep calls from old new = old.net ≡ Some from → (net : NetData) × (new.net ≡ Some net) × IsFront calls from net

-- all that is left settles like what was read, or like one of these
abbrev pub FromRead : Stands → HostView → HostView → Type 0
FromRead stations old new = (s : State) → new.stops.may_leave s → Alike (standing old.state) (standing s) ⊎ Near stations (standing s)

-- any step
abbrev pub Any : State → State → Type 0
Any old new = Unit {0}
