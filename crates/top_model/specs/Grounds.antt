-- On which network the policy of a run is evaluated, and the document that it is there.
use Rattle.std.specs.Prelude.{◌≡◌, Some, Result, Ok, Err}
use Rattle.net_model.specs.NetData.{NetData}
use Rattle.document_model.specs.declared.Doc.{Doc}
use Rattle.policy_model.specs.Values.{PolicyData}
use Rattle.engine_model.specs.Faults.{HasTaken}
use Rattle.top_model.specs.Orders.{Order, document_on, applying_policy}
use Rattle.top_model.specs.Machine.{ground}
use Rattle.top_model.specs.Runs.{Run, reads}
use Rattle.top_model.specs.declared.report.Cause.{Cause}

-- an apply dumps again behind the evaluation of its policy
abbrev pub DumpsOnce : Order → Type 0
DumpsOnce (applying_policy p opts) = ⊥
DumpsOnce order = Unit {0}

-- The network that was dumped: where nothing is dumped behind it, the host tells it; and on an honest host, sound or not, it is the one
-- that the machine evaluates on. Another host doesn't tell at the exit of an apply which one it was.
pub record IsGround (r : Run) (order : Order) (net : NetData) : Type 0 where
  pub dumped : DumpsOnce order → r.host_tells → r.host_after.fresh ≡ Some net
  pub stood : r.honest → ground r.now order (reads r) ≡ Some net

abbrev pub Grounds : Run → Result Order Cause → NetData → Type 0
Grounds r (Ok order) net = IsGround r order net
Grounds r (Err refusal) net = ⊥

-- a change was to be taken back first, as a host reads that tells its content
abbrev pub TakesFirst : Run → Type 0
TakesFirst r = r.host_tells → HasTaken r.now (reads r).cell

-- the policy of an order is this document on such a network
pub record IsDocumentOf (r : Run) (order : Order) (p : PolicyData) (doc : Doc) : Type 0 where
  pub net : NetData
  pub is_ground : IsGround r order net
  pub reads : document_on p net ≡ Ok doc
