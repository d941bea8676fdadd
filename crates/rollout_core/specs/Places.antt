-- What stands on a node, by how far its change has come.
use Rattle.std.specs.Prelude.{◌≡◌, ◌≤◌, ℕ, Bool, true, Option, Some, None, Ok}
use Rattle.net_model.specs.NetData.{NetData}
use Rattle.document_model.specs.declared.Doc.{Doc}
use Rattle.host_core.specs.HostView.{State, HostView}
use Rattle.checkpoint_cell.specs.Cell.{cell_of}
use Rattle.checkpoint_cell.specs.Settled.{Standing, standing, restored_to}
use Rattle.merge_model.specs.MergedNet.{merge}
use Rattle.engine_model.specs.Machine.{waiting}
use Rattle.engine_model.specs.Sound.{Fit, Sound}
use Rattle.engine_model.specs.Stations.{Stands, Near, Within, Only, Either, left_by}
use Rattle.engine_model.specs.Undone.{stand}
use Rattle.rollout_model.specs.declared.node.NodeState.{NodeState}
use Rattle.rollout_model.specs.declared.node.NodeState.TheVariants.{Fresh, Starting, Opened, Probed, Committed, Restored, Doubt}
use Rattle.rollout_core.specs.Did.{change}

-- the host of a node is sound, and no checkpoint stands there
pub record Clean (host : HostView) : Type 0 where
  pub sound : Sound host
  pub empty : (s : State) → host.stops.may_leave s → cell_of s.cell ≡ None

-- the document makes this network of the one that stood
pub record Changes (doc : Doc) (stood : Standing) (from to : NetData) : Type 0 where
  pub stands : stood ≡ restored_to from
  pub merges : merge from doc ≡ Ok to

module _ (doc : Doc) (timeout : ℕ) (stood : Standing) where
  -- the change waits that was begun at this moment
  abbrev pub Waits : ℕ → Stands
  Waits at stands = (from : NetData) × (to : NetData) × Changes doc stood from to × (stands ≡ stand to (Some (waiting (change doc timeout at) from)))

  abbrev pub WaitsSince : Option ℕ → Stands
  WaitsSince None stands = ⊥
  WaitsSince (Some at) stands = Waits at stands

  -- the change is committed
  abbrev pub Merged : Stands
  Merged stands = (from : NetData) × (to : NetData) × Changes doc stood from to × (stands ≡ restored_to to)

  abbrev pub Once : Bool → Stands → Stands
  Once good place stands = (good ≡ true) × place stands

  -- what a node may stand like at each moment: as before the rollout, with the change waiting that was begun then, or, once
  -- it was found good, with the change committed
  abbrev pub Station : Option ℕ → Bool → Stands
  Station begun good = Either (Only stood) (Either (WaitsSince begun) (Once good Merged))

  -- between two steps, by the state of the node
  abbrev pub AtRest : Option ℕ → Bool → NodeState → Stands
  AtRest begun good Fresh = Only stood
  AtRest begun good Starting = Station begun good
  AtRest begun good Opened = WaitsSince begun
  AtRest begun good Probed = Once good (WaitsSince begun)
  AtRest begun good Committed = Once good Merged
  AtRest begun good Restored = Only stood
  AtRest begun good Doubt = Station begun good

  -- it reads so, unless nobody knows
  abbrev pub ReadsAs : Option ℕ → Bool → NodeState → Stands
  ReadsAs begun good Starting stands = Near (Station begun good) stands
  ReadsAs begun good Doubt stands = Near (Station begun good) stands
  ReadsAs begun good state stands = AtRest begun good state stands

-- a fresh node wasn't begun
abbrev pub BegunBy : NodeState → Option ℕ → Type 0
BegunBy Fresh begun = begun ≡ None
BegunBy state begun = Unit {0}

-- of a node whose host told this before the rollout, and tells this now
pub record NodeHolds (doc : Doc) (timeout : ℕ) (begun : Option ℕ) (good : Bool) (state : NodeState) (first now : HostView) : Type 0 where
  pub empty : (standing first.state).cell ≡ None
  pub begun_by : BegunBy state begun
  pub sound : Sound now
  -- how it reads, and what a stop now may leave
  pub reads : ReadsAs doc timeout (standing first.state) begun good state (standing now.state)
  pub left : Within (left_by now) (AtRest doc timeout (standing first.state) begun good state)
  -- what a stop at any moment since the start of the rollout may have left
  pub during : (s : State) → now.stops.left_since first.stops.moment s → Near (Station doc timeout (standing first.state) begun good) (standing s)
  -- and each of those can be recovered from
  pub fits : (s : State) → now.stops.left_since first.stops.moment s → Fit s
  pub later : first.faults ≤ now.faults
  pub moment : first.stops.moment ≤ now.stops.moment
