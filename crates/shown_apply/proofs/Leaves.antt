-- A document that makes the same of a network leaves it as it is under each command.
use Rattle.std.proofs.Common.{◌≡◌, ◌∙◌, ℕ, List, Bool, true, false, Some, None, Result, Ok, refl, ap}
use Rattle.std.specs.Prelude.{is_ok, if◌then◌else◌}
use Rattle.checkpoint_cell.specs.Settled.{restored_to}
use Rattle.document_model.specs.declared.Doc.{Doc}
use Rattle.document_model.specs.declared.Refused.{Refused}
use Rattle.engine_model.specs.Machine.{Outcome, Asked, asked, deadline_of, waiting, merged_as}
use Rattle.merge_model.specs.MergedNet.{merge}
use Rattle.engine_model.specs.declared.Applied.{Applied}
use Rattle.engine_model.specs.declared.ApplyFault.{ApplyFault}
use Rattle.net_model.specs.NetData.{NetData}
use Rattle.top_model.specs.Machine.{told_of, plan_to, apply_cause}
use Rattle.top_model.specs.Said.{said_applied}
use Rattle.shown_apply.specs.Laws.{LeavesAsIs, ChangesNothing, LeavesNetwork}

-- what stands after a change from a network to itself, whether it is committed or waits
abbrev either : Bool → Asked → NetData → Outcome Applied ApplyFault
either b a net =
    if b then record { answer = Ok (record { deadline = Some (deadline_of a) }); after = record { net = Some net; cell = Some (waiting a net) } }
    else record { answer = Ok (record { deadline = None }); after = restored_to net }

either_stands : (b : Bool) (a : Asked) (net : NetData) → (either b a net).after.net ≡ Some net
either_stands true a net = refl
either_stands false a net = refl

either_done : (b : Bool) (a : Asked) (net : NetData) → is_ok (told_of said_applied apply_cause (either b a net)).answer ≡ true
either_done true a net = refl
either_done false a net = refl

leaves : (net : NetData) (doc : Doc) → merge net doc ≡ Ok net → LeavesAsIs net doc
leaves net doc same = record {
  plan = λ now in_batch. ap (plan_to in_batch net) same;
  done = λ now opts.
      let a = asked doc opts now in
      ap (λ (r : Result NetData Refused). is_ok (told_of said_applied apply_cause (merged_as a net r)).answer) same ∙ either_done opts.no_commit a net;
  apply = λ now opts.
      let a = asked doc opts now in
      ap (λ (r : Result NetData Refused). (told_of said_applied apply_cause (merged_as a net r)).after.net) same ∙ either_stands opts.no_commit a net;
}

-- so the document that is read of a text of the state does
pub leaves_network : (text : NetData → List ℕ) → ChangesNothing text → LeavesNetwork text
leaves_network text law net doc is ranges printable within read = leaves net doc (law net doc is ranges printable within read)
