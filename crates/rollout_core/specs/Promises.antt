-- What a user may rely on of each node, after each step of a rollout.
use Rattle.std.specs.Prelude.{◌≡◌, ◌≢◌, ◌⊎◌, ◌≤◌, ℕ, Bool, true, Option, Some, None}
use Rattle.net_model.specs.NetData.{NetData}
use Rattle.document_model.specs.declared.Doc.{Doc}
use Rattle.host_core.specs.HostView.{State, HostView, HasNet}
use Rattle.checkpoint_cell.specs.Settled.{standing}
use Rattle.engine_model.specs.Machine.{deadline_of, recover}
use Rattle.engine_model.specs.Stations.{Near}
use Rattle.rollout_model.specs.Rollout.{is_held}
use Rattle.rollout_model.specs.declared.node.NodeState.{NodeState}
use Rattle.rollout_model.specs.declared.node.NodeState.TheVariants.{Fresh, Committed, Restored}
use Rattle.rollout_core.specs.Did.{change}
use Rattle.rollout_core.specs.Places.{Changes, Merged, Station}

-- the node has this network: it reads so, and each stop leaves it
pub record Has (net : Option NetData) (host : HostView) : Type 0 where
  pub reads : host.state.net ≡ net
  pub left : HasNet net host

-- the moment is at or past the deadline of a node that was begun then
abbrev pub IsPast : Doc → ℕ → Option ℕ → ℕ → Type 0
IsPast doc timeout None m = Unit {0}
IsPast doc timeout (Some at) m = deadline_of (change doc timeout at) ≤ m

-- of a node whose host told this before the rollout, and tells this now
pub record Promises (doc : Doc) (timeout : ℕ) (begun : Option ℕ) (good : Bool) (state : NodeState) (first now : HostView) : Type 0 where
  -- a checkpoint stands only where the node is held
  pub held : (standing now.state).cell ≢ None → is_held state ≡ true
  -- a committed node has its merged network, a restored one that of the entry, and so has one that wasn't begun
  pub committed : state ≡ Committed → (from : NetData) × (to : NetData) × Changes doc (standing first.state) from to × Has (Some to) now
  pub restored : (state ≡ Restored) ⊎ (state ≡ Fresh) → Has first.state.net now
  -- each pair that a stop since the entry left settles like the state of the entry, like the merged one that waits, or, once
  -- the node was found good, like the merged one that is committed
  pub left : (s : State) → now.stops.left_since first.stops.moment s → Near (Station doc timeout (standing first.state) begun good) (standing s)
  -- and a recovery from such a pair, at or past the deadline, leads to the state of the entry or to the merged one, wholly
  pub recovers : (s : State) → now.stops.left_since first.stops.moment s → (m : ℕ) → IsPast doc timeout begun m
      → ((recover m (standing s)).after ≡ standing first.state) ⊎ Merged doc timeout (standing first.state) (recover m (standing s)).after
