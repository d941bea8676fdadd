-- What a printed state is read as, and what merging that gives.
use Rattle.std.specs.Prelude.{◌≡◌, ◌≤◌, ℕ, Bool, false, List, length, IsOk, Some, None, Ok, true}
use Rattle.document_model.specs.declared.Doc.{Doc}
use Rattle.net_model.specs.NetData.{NetData, IsNet}
use Rattle.net_search.specs.Ranges.{Ranges}
use Rattle.doc_tree.specs.declared.limits.TheConstants.{MAX_BYTES}
use Rattle.checkpoint_cell.specs.Settled.{restored_to}
use Rattle.merge_model.specs.MergedNet.{merge}
use Rattle.engine_model.specs.declared.ApplyOpts.{ApplyOpts}
use Rattle.top_model.specs.Machine.{machine, said_plan}
use Rattle.top_model.specs.Orders.{planning, applying, document}
use Rattle.top_model.specs.Said.{shown}
use Rattle.shown_model.specs.Shown.{shown_doc}
use Rattle.shown_model.specs.Printable.{IsPrintable}

-- the state of the whole network in YAML
abbrev pub state_text : NetData → List ℕ
state_text net = shown None false net

-- and as a line of JSON
abbrev pub state_line : NetData → List ℕ
state_line net = shown None true net

-- such a text of the state, within the limit, is read as the document that it shows
abbrev pub ReadsAsShown : (NetData → List ℕ) → Type 0
ReadsAsShown text = (net : NetData) → IsNet net → Ranges net → IsPrintable net → length (text net) ≤ MAX_BYTES → document (text net) ≡ Ok (shown_doc net)

-- that document breaks no rule on its network and makes the same of it
abbrev pub ShownIsSame : Type 0
ShownIsSame = (net : NetData) → IsNet net → merge net (shown_doc net) ≡ Ok net

-- so whatever document such a text is read as makes the same of the network
abbrev pub ChangesNothing : (NetData → List ℕ) → Type 0
ChangesNothing text = (net : NetData) (doc : Doc) → IsNet net → Ranges net → IsPrintable net → length (text net) ≤ MAX_BYTES → document (text net) ≡ Ok doc → merge net doc ≡ Ok net

-- where the network stands alone: the plan of this document, in either form, leads from the network to itself, and an apply of it is done, and
-- leaves the network, whether it is committed or waits
pub record LeavesAsIs (net : NetData) (doc : Doc) : Type 0 where
  pub plan : (now : ℕ) (in_batch : Bool) → (machine now (planning doc in_batch) (restored_to net)).answer ≡ Ok (said_plan in_batch net net)
  pub done : (now : ℕ) (opts : ApplyOpts) → IsOk (machine now (applying doc opts) (restored_to net)).answer
  pub apply : (now : ℕ) (opts : ApplyOpts) → (machine now (applying doc opts) (restored_to net)).after.net ≡ Some net

-- so does whatever document such a text is read as
abbrev pub LeavesNetwork : (NetData → List ℕ) → Type 0
LeavesNetwork text = (net : NetData) (doc : Doc) → IsNet net → Ranges net → IsPrintable net → length (text net) ≤ MAX_BYTES → document (text net) ≡ Ok doc → LeavesAsIs net doc
