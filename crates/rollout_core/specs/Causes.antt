-- When each event comes, on honest hosts that were sound and had no checkpoint before the rollout.
use Rattle.std.specs.Prelude.{◌≡◌, ◌⊎◌, ◌≤◌, ◌<◌, ◌+◌, ℕ, true, Option, Some, None, Err}
use Rattle.net_model.specs.NetData.{NetData}
use Rattle.document_model.specs.declared.Doc.{Doc}
use Rattle.document_model.specs.declared.Refused.{Refused as Refusal}
use Rattle.host_core.specs.Faults.{Rose}
use Rattle.host_core.specs.HostView.{HostView}
use Rattle.checkpoint_cell.specs.Cell.{is_due}
use Rattle.checkpoint_cell.specs.Settled.{Standing, standing, restored_to}
use Rattle.merge_model.specs.MergedNet.{merge}
use Rattle.engine_model.specs.Machine.{deadline_of}
use Rattle.rollout_model.specs.declared.node.Event.{Event}
use Rattle.rollout_model.specs.declared.node.Event.TheVariants.{Refused, Unclear, Good, Bad, Closed, Late}
use Rattle.rollout_core.specs.Did.{change}

-- the document breaks a rule on what stood
abbrev pub IsRefused : Doc → Standing → Type 0
IsRefused doc stood = (from : NetData) × (refusal : Refusal) × (stood ≡ restored_to from) × (merge from doc ≡ Err refusal)

-- the moment is one from the start of the node on, and before its time is up
abbrev pub InTime : ℕ → Option ℕ → ℕ → Type 0
InTime timeout None now = ⊥
InTime timeout (Some at) now = (at ≤ now) × (now < at + timeout)

-- the time of the node is up, or the clock fell below its start
abbrev pub IsDue : Doc → ℕ → Option ℕ → ℕ → Type 0
IsDue doc timeout None now = ⊥
IsDue doc timeout (Some at) now = is_due at (deadline_of (change doc timeout at)) now ≡ true

-- an event that was told at this moment, of a node that was started then, and whose host told this before the rollout and tells
-- this now
abbrev pub Comes : Doc → ℕ → Option ℕ → HostView → HostView → ℕ → Event → Type 0
Comes doc timeout begun first now at (Refused i) = IsRefused doc (standing first.state) ⊎ Rose first.faults now.faults
Comes doc timeout begun first now at (Unclear i) = (first.state.net ≡ None) ⊎ Rose first.faults now.faults
Comes doc timeout begun first now at (Good i) = InTime timeout begun at
Comes doc timeout begun first now at (Bad i) = IsDue doc timeout begun at
Comes doc timeout begun first now at (Closed i) = InTime timeout begun at
Comes doc timeout begun first now at (Late i) = IsDue doc timeout begun at
Comes doc timeout begun first now at event = Unit {0}
