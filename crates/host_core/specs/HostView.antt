-- What a host tells.
use Rattle.std.specs.Prelude.{◌≡◌, ◌≢◌, ◌⊎◌, ◌≤◌, ℕ, true, get_or, is_some, List, [], Option, Some, None, Ok, Err}
use Rattle.std.specs.List.{list_all}
use Rattle.net_model.specs.Hardware.{device_of}
use Rattle.net_model.specs.NetData.{NetData, no_dns}
use Rattle.kernel_model.specs.Kernel.{step}
use Rattle.net_model.specs.declared.Call.{Call}
use Rattle.host_core.specs.Bytes.{Torn}
use Rattle.host_core.specs.Faults.{Rose, one_more}
use Rattle.host_core.specs.Stops.{Stops, Steps, Stays, IsLawful}

-- the network or none, and the bytes of the checkpoint area
pub record State : Type 0 where
  pub net : Option NetData
  pub cell : List ℕ

-- the kernel calls since the last dump that succeeded, the refusals, and the last refusal: its number, and the number of its call, from 1, since that dump
pub record Kernel : Type 0 where
  pub calls : ℕ
  pub refusals : ℕ
  pub last : ℕ × ℕ

pub record HostView : Type 1 where
  -- as it reads
  pub state : State
  -- what stops leave
  pub stops : Stops State
  pub faults : ℕ
  pub kernel : Kernel
  -- no call is in doubt
  pub settled : Type 0
  -- what the last dump gave, where no call and no making came after it
  pub fresh : Option NetData

-- every pair that a stop now may leave has this network
abbrev pub HasNet : Option NetData → HostView → Type 0
HasNet net host = (s : State) → host.stops.may_leave s → s.net ≡ net

-- no byte of the checkpoint area is in doubt: each stop leaves these
abbrev pub HasCell : List ℕ → HostView → Type 0
HasCell cell host = (s : State) → host.stops.may_leave s → s.cell ≡ cell

-- What every host keeps to. One that tells nothing of content may say that no stop leaves anything.
pub record IsLawfulHost (tells : Type 0) (host : HostView) : Type 0 where
  pub stops : IsLawful host.stops
  -- as it reads, it may be left
  pub reads : tells → host.stops.may_leave host.state
  -- where no call is in doubt, each pair has the network that the host has
  pub no_doubt : tells → host.settled → HasNet host.state.net host
  -- and it has one
  pub has_net : tells → host.settled → host.state.net ≢ None

-- ---- the network

-- the network takes the call and becomes this one, by the kernel's step
pub record Accepted (call : Call) (old : NetData) (new : Option NetData) : Type 0 where
  pub next : NetData
  pub stepped : step call old ≡ Ok next
  pub becomes : new ≡ Some next

abbrev pub Accepts : Call → Option NetData → Option NetData → Type 0
Accepts call (Some old) new = Accepted call old new
Accepts call None new = ⊥

-- the network refuses the call with this number
abbrev pub Refuses : Call → Option NetData → ℕ → Type 0
Refuses call (Some net) k = step call net ≡ Err k
Refuses call None k = ⊥

-- the call was done or it wasn't, and the checkpoint area is as it was
pub record MaybeCalled (call : Call) (old new : State) : Type 0 where
  pub cell : new.cell ≡ old.cell
  pub net : (new.net ≡ old.net) ⊎ Accepts call old.net new.net

abbrev pub SameCell : State → State → Type 0
SameCell old new = new.cell ≡ old.cell

abbrev pub SameNet : State → State → Type 0
SameNet old new = new.net ≡ old.net

-- ---- kernel calls and refusals, which every host tells

-- one more kernel call since the last dump
abbrev pub counted : Kernel → Kernel
counted kernel = record kernel { calls = one_more kernel.calls }

-- the kernel after a call that is refused with this number
abbrev pub refused : ℕ → Kernel → Kernel
refused k kernel = record { calls = one_more kernel.calls; refusals = one_more kernel.refusals; last = (k, one_more kernel.calls) }

-- the kernel after a dump
abbrev pub dumped : Kernel → Kernel
dumped kernel = record kernel { calls = 0 }

-- the last refusal is this one, and it came since
pub record WasRefused (k n : ℕ) (old new : Kernel) : Type 0 where
  pub rose : Rose old.refusals new.refusals
  pub last : new.last ≡ (k, n)
  pub counted : 1 ≤ n

-- no refusal came since
pub record NoneRefused (old new : Kernel) : Type 0 where
  pub refusals : new.refusals ≡ old.refusals
  pub last : new.last ≡ old.last

-- ---- what a call leaves alone

-- nothing of the kernel is touched
pub record SameKernel (tells : Type 0) (old new : HostView) : Type 0 where
  pub kernel : new.kernel ≡ old.kernel
  pub settled : old.settled → new.settled
  pub fresh : tells → new.fresh ≡ old.fresh
  pub net : tells → new.state.net ≡ old.state.net

-- nothing is touched, and no stop may leave more than before
pub record Untouched (tells : Type 0) (old new : HostView) : Type 0 where
  pub kernel : SameKernel tells old new
  pub cell : tells → new.state.cell ≡ old.state.cell
  pub stops : Steps Stays old.stops new.stops

-- a write to the checkpoint area, whole or torn
pub record CellTorn (at n : ℕ) (old new : State) : Type 0 where
  pub net : new.net ≡ old.net
  pub cell : Torn at n old.cell new.cell

-- ---- making the first network

-- devices alone, without routes, rules and settings of DNS
pub record IsFirst (net : NetData) : Type 0 where
  pub devices : list_all (λ l. is_some (device_of l.name l.kind)) net.links ≡ true
  pub routes : net.routes ≡ []
  pub rules : net.rules ≡ []
  pub dns : net.dns ≡ no_dns

-- there is no network, and the gate is written, where it is open or the area is empty; all other bytes stay
pub record Closing (old new : State) : Type 0 where
  pub net : new.net ≡ None
  pub was_open : get_or old.cell 0 1 ≡ 1
  pub gate : Torn 0 1 old.cell new.cell

-- The checkpoint is closed, and there is no network or the first one. A gate that was closed before wasn't written, and
-- the bytes behind it never are.
pub record Storing (first : NetData) (old new : State) : Type 0 where
  pub net : (new.net ≡ None) ⊎ (new.net ≡ Some first)
  pub closed : get_or new.cell 0 1 ≢ 1
  pub gate : Torn 0 1 old.cell new.cell
  pub kept : get_or old.cell 0 1 ≢ 1 → new.cell ≡ old.cell

-- a stop inside a making leaves what was there, the closing under way, or behind it the storing under way
abbrev pub MaybeMade : NetData → State → State → Type 0
MaybeMade first old new = (new ≡ old) ⊎ Closing old new ⊎ Storing first old new

-- The network is stored; the checkpoint area isn't empty, its gate is closed, and nothing of both is in doubt. Where the
-- gate was closed before, the area is as it was.
pub record IsMade (first : NetData) (old : State) (host : HostView) : Type 0 where
  pub net : host.state.net ≡ Some first
  pub nets : HasNet (Some first) host
  pub cell : HasCell host.state.cell host
  pub closed : get_or host.state.cell 0 1 ≢ 1
  pub kept : get_or old.cell 0 1 ≢ 1 → host.state.cell ≡ old.cell
