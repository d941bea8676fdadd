-- A host whose every stop can be recovered from.
use Rattle.std.specs.Prelude.{◌≡◌, ◌≢◌, ◌⊎◌, ℕ, [], Option, Some}
use Rattle.net_model.specs.Hardware.{hardware}
use Rattle.net_model.specs.NetData.{NetData}
use Rattle.host_core.specs.HostView.{State, HostView, HasNet}
use Rattle.checkpoint_cell.specs.Cell.{Checkpoint, cell_of, applying}

-- the checkpoint is open and has a whole image, of the hardware of the network
pub record IsWhole (s : State) (checkpoint : Checkpoint) : Type 0 where
  pub saved : NetData
  pub net : NetData
  pub is_saved : checkpoint.net ≡ Some saved
  pub is_net : s.net ≡ Some net
  pub devices : hardware net.links ≡ hardware saved.links

-- one pair that can be recovered from
pub record Fit (s : State) : Type 0 where
  pub whole : (checkpoint : Checkpoint) → cell_of s.cell ≡ Some checkpoint → IsWhole s checkpoint
  pub filled : (net : NetData) → s.net ≡ Some net → s.cell ≢ []

abbrev pub IsApplying : NetData → HostView → Type 0
IsApplying saved host = (s : State) → host.stops.may_leave s → (made : ℕ) × (deadline : ℕ) × (cell_of s.cell ≡ Some (applying made deadline saved))

-- each pair can be recovered from, and all have one network or all are changes from one network
pub record Sound (host : HostView) : Type 0 where
  pub fit : (s : State) → host.stops.may_leave s → Fit s
  pub one : ((net : Option NetData) × HasNet net host) ⊎ ((saved : NetData) × IsApplying saved host)

-- of a host that is honest, or that tells its content, where it was sound when it was asked
abbrev pub WhereSound : Type 0 → HostView → Type 0 → Type 0
WhereSound honest host says = honest → Sound host → says
