-- Plans that are printed as lines of ip(8), tried out on the network that they were made for.
use Rattle.std.specs.Prelude.{◌≡◌, ◌≤◌, ◌⊎◌, length, false, None, Some, Result, Ok, Err}
use Rattle.net_model.specs.NetData.{NetData}
use Rattle.document_model.specs.declared.Doc.{Doc}
use Rattle.merge_model.specs.MergedNet.{merge}
use Rattle.ip_batch.specs.declared.fault.TheConstants.{MAX_BATCH_BYTES}
use Rattle.top_model.specs.Said.{Says, batched, printed}
use Rattle.top_model.specs.Orders.{Text, Order, and_then, calls_of, simulating}
use Rattle.top_model.specs.Runs.{Run, Asks, Quiet, reads}
use Rattle.top_model.specs.Told.{Told}
use Rattle.top_model.specs.declared.report.Cause.{Cause}
use Rattle.top_model.specs.declared.report.Cause.TheVariants.{OutOfMemory}

-- a plan from this network to what the document makes of it was printed as this text, within the limit
pub record IsSaid (from : NetData) (doc : Doc) (text : Text) : Type 0 where
  pub to : NetData
  pub merges : merge from doc ≡ Ok to
  pub says : Says (batched from to) text
  pub within : length text ≤ MAX_BATCH_BYTES

-- what `simulate` is asked by a text
abbrev pub trying : Text → Result Order Cause
trying text = and_then (calls_of text) (λ calls. Ok (simulating calls))

-- Where such a text is tried out on the network that its plan was made for, on an honest host, sound or not, and no fault comes, the
-- merged network is printed, or memory ran out.
abbrev pub Simulated : Run → Type 0
Simulated r = (from : NetData) (doc : Doc) (text : Text) (s : IsSaid from doc text) → r.honest → Asks r (trying text) → (reads r).net ≡ Some from → Quiet r
    → Told r (trying text) (Ok (printed None false s.to)) ⊎ Told r (trying text) (Err OutOfMemory)
