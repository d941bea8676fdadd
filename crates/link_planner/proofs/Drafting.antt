-- A draft with one more call.
use Rattle.std.proofs.Common.{◌≡◌, ℕ, [], ◌∷◌, ◌++◌, Result, Ok, refl, sym, subst, ◌∙◌}
use Rattle.net_model.specs.Hardware.{hardware}
use Rattle.net_model.specs.NetData.{NetData, IsNet}
use Rattle.net_model.specs.declared.call.Call.{Call}
use Rattle.kernel_model.specs.Kernel.{step, after}
use Rattle.kernel_laws.proofs.lemmas.StepKeeps.{keeps_net, run_keeps}
use Rattle.plan_model.specs.Laws.{StartIsCalm, OneMore}
use Rattle.plan_model.specs.Undisturbed.{IsUndisturbed}
use Rattle.link_planner.specs.Drafts.{DraftData, IsDraft, IsSafe, Holds, draft_of, with_call}

same_ok : (a b : NetData) → (let o : Result NetData ℕ = Ok a in o) ≡ Ok b → a ≡ b
same_ok a b e = cc

-- what a safe call leads to
pub made : (start target : NetData) (call : Call) (net next : NetData) → IsSafe start target call net → step call net ≡ Ok next → after call net ≡ next
made start target call net next safe stepped = same_ok (after call net) next (sym safe.accepted ∙ stepped)

-- the draft without a call is one
pub begun : StartIsCalm → (start target : NetData) → hardware start.links ≡ hardware target.links → IsDraft (draft_of start target start [])
begun calm start target devices = record { led = refl; undisturbed = calm start target; devices = devices }

-- and so is one with a safe call more
pub drafted : OneMore → (call : Call) (d : DraftData) (next : NetData) → IsNet d.net → IsDraft d → IsSafe d.start d.target call d.net → step call d.net ≡ Ok next → IsDraft (draft_of d.start d.target next (d.calls ++ call ∷ []))
drafted one_more call d next is draft safe stepped = record {
  led = one_more d.start d.target d.calls call d.start d.net next draft.led stepped safe.spares safe.wants (subst (IsUndisturbed d.start d.target) (made d.start d.target call d.net next safe stepped) safe.undisturbed);
  undisturbed = subst (IsUndisturbed d.start d.target) (made d.start d.target call d.net next safe stepped) safe.undisturbed;
  devices = (run_keeps (call ∷ []) d.net next is (next, stepped, refl)).1 ∙ draft.devices;
}

-- what is known of a draft is known with a safe call more
pub held : OneMore → (d : DraftData) (call : Call) → Holds d → IsSafe d.start d.target call d.net → Holds (with_call call d)
held one_more d call h safe = record {
  start = h.start;
  target = h.target;
  net = keeps_net call d.net (after call d.net) h.net safe.accepted;
  draft = drafted one_more call d (after call d.net) h.net h.draft safe safe.accepted;
}
