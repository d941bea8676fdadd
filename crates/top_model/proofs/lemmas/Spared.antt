-- What an apply leaves alone, by its report.
use Rattle.std.proofs.Common.{◌≡◌, ◌∙◌, inl, inr, ap, subst}
use Rattle.std.specs.Prelude.{◌≢◌, Result, Ok, Err}
use Rattle.net_model.specs.NetData.{NetData}
use Rattle.document_model.specs.declared.Doc.{Doc}
use Rattle.checkpoint_cell.specs.Settled.{restored_to}
use Rattle.merge_model.specs.MergedNet.{merge}
use Rattle.engine_model.specs.declared.ApplyOpts.{ApplyOpts}
use Rattle.top_model.specs.Orders.{Order, AppliesTo, applying, applying_policy}
use Rattle.top_model.specs.Runs.{Run, HostRose, reads}
use Rattle.top_model.specs.Told.{Answer, cause_of}
use Rattle.top_model.specs.Answered.{Answered}
use Rattle.top_model.specs.Undisturbed.{LeavesAlone, Spares, Undisturbed}
use Rattle.top_model.specs.declared.report.Cause.{Cause}
use Rattle.top_model.specs.declared.report.Cause.TheVariants.{OutOfMemory}
use Rattle.top_model.proofs.lemmas.Reports.{order_is, rests, told_or_cut}

-- an apply of this document, which may be that of its policy
spared : (r : Run) (order : Result Order Cause) (answer : Answer) (doc : Doc) (opts : ApplyOpts) (from to : NetData) → AppliesTo from order doc opts → Spares r order answer
    → reads r ≡ restored_to from → merge from doc ≡ Ok to → (HostRose r → ⊥) → answer ≢ Err OutOfMemory → LeavesAlone from to r.host r.host_after
spared r order answer doc opts from to (inl is) spares stood merges quiet other =
    let P : Result Order Cause → Type 0 = λ o. Spares r o answer in
    let all : Spares r (Ok (applying doc opts)) answer = subst P is spares in all from to stood merges quiet other
spared r order answer doc opts from to (inr policy) spares stood merges quiet other =
    let P : Result Order Cause → Type 0 = λ o. Spares r o answer in
    let all : Spares r (Ok (applying_policy policy.0 opts)) answer = subst P policy.1 spares in all doc from to stood policy.2 merges quiet other

-- an apply that met no fault leaves alone what its change doesn't touch
pub undisturbed : (r : Run) → Answered r → Undisturbed r
undisturbed r a doc opts from to alone asks stood merges quiet steady other =
    let P : Result Order Cause → Type 0 = λ o. Spares r o a.answer in
    spared r asks.0 a.answer doc opts from to asks.1 (subst P (order_is r a asks.0 asks.2) (a.spares (rests r a.order alone))) stood merges quiet.host
    (λ memory. elim (told_or_cut r a) as (λ v. ⊥) [ inl told ↦ other (told ∙ ap cause_of memory) | inr rose ↦ steady rose ])
