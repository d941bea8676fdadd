-- A call that is refused or carried out, by its tests and its effect.
use Rattle.std.proofs.Common.{◌≡◌, ℕ, Option, Some, None, refl, sym, ap, subst, ◌∙◌}
use Rattle.std.specs.Prelude.{⊤, Result, Ok, Err, OnOk, OnErr}
use Rattle.net_model.specs.NetData.{NetData, IsNet}
use Rattle.net_model.specs.declared.call.Call.{Call}
use Rattle.kernel_model.specs.Outcome.{first_true, unless_refused}
use Rattle.kernel_model.specs.Kernel.{refusals, after, step}
use Rattle.kernel_laws.proofs.lemmas.StepKeeps.{keeps_net}

-- the number of the least refusal is the answer
pub refused : (call : Call) (net : NetData) (k : ℕ) → first_true (refusals call net) ≡ Some k → step call net ≡ Err k
refused call net k h = ap (λ r. unless_refused r (after call net)) h

-- where none holds, the effect is the next network
pub carried : (call : Call) (net new : NetData) → first_true (refusals call net) ≡ None → new ≡ after call net → step call net ≡ Ok new
carried call net new none is = ap (λ r. unless_refused r (after call net)) none ∙ ap Ok (sym is)

-- and a network, as what was left unchanged is
pub carried_net : {E : Type 0} (r : Result ⊤ E) (call : Call) (net new : NetData) → IsNet net → first_true (refusals call net) ≡ None → OnOk r (new ≡ after call net) → OnErr r (new ≡ net) → IsNet new
carried_net (Ok done) call net new is none ok err = keeps_net call net new is (carried call net new none ok)
carried_net (Err e) call net new is none ok err = subst IsNet (sym err) is
