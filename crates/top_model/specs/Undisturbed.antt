-- What an apply leaves alone on its way.
use Rattle.std.specs.Prelude.{◌≡◌, ◌≢◌, Some, Result, Ok, Err}
use Rattle.net_model.specs.NetData.{NetData}
use Rattle.document_model.specs.declared.Doc.{Doc}
use Rattle.host_core.specs.HostView.{State, HostView}
use Rattle.plan_model.specs.Undisturbed.{IsUndisturbed}
use Rattle.checkpoint_cell.specs.Settled.{restored_to}
use Rattle.merge_model.specs.MergedNet.{merge}
use Rattle.engine_model.specs.declared.ApplyOpts.{ApplyOpts}
use Rattle.top_model.specs.Orders.{Order, document_on, applying, applying_policy}
use Rattle.top_model.specs.Runs.{Run, Alone, AsksApply, Quiet, HostRose, SinkRose, reads}
use Rattle.top_model.specs.Told.{Answer}
use Rattle.top_model.specs.declared.report.Cause.{Cause}
use Rattle.top_model.specs.declared.report.Cause.TheVariants.{OutOfMemory}

-- each pair that was left on the way has a network with each link that the change doesn't touch, its addresses, and its
-- routes that stand in both networks, as in the first one
abbrev pub LeavesAlone : NetData → NetData → HostView → HostView → Type 0
LeavesAlone from to old new = (s : State) → new.stops.left_since old.stops.moment s → (net : NetData) × (s.net ≡ Some net) × IsUndisturbed from to net

-- an apply where no checkpoint stood and the host met no fault
abbrev pub Spares : Run → Result Order Cause → Answer → Type 0
Spares r (Ok (applying doc opts)) answer =
    (from to : NetData) → reads r ≡ restored_to from → merge from doc ≡ Ok to → (HostRose r → ⊥) → answer ≢ Err OutOfMemory → LeavesAlone from to r.host r.host_after
Spares r (Ok (applying_policy p opts)) answer = (doc : Doc) (from to : NetData) → reads r ≡ restored_to from → document_on p from ≡ Ok doc → merge from doc ≡ Ok to
    → (HostRose r → ⊥) → answer ≢ Err OutOfMemory → LeavesAlone from to r.host r.host_after
Spares r order answer = Unit {0}

-- the same by the report, where no sink failed either
abbrev pub Undisturbed : Run → Type 0
Undisturbed r = (doc : Doc) (opts : ApplyOpts) (from to : NetData) → Alone r → AsksApply r doc opts from → reads r ≡ restored_to from → merge from doc ≡ Ok to
    → Quiet r → (SinkRose r → ⊥) → r.report.cause ≢ OutOfMemory → LeavesAlone from to r.host r.host_after
