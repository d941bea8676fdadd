-- A plan that is printed as lines of ip(8), tried out, leads to the merged network.
use Rattle.std.proofs.Common.{◌≡◌, ◌∙◌, ◌+◌, ◌⊎◌, inl, inr, ℕ, List, [], ◌∷◌, Some, None, false, refl, sym, ap, subst}
use Rattle.std.specs.Prelude.{Result, Ok, Err}
use Rattle.net_model.specs.NetData.{NetData}
use Rattle.net_model.specs.declared.Call.{Call}
use Rattle.kernel_model.specs.Runs.{Runs}
use Rattle.document_model.specs.declared.Doc.{Doc}
use Rattle.top_model.specs.Said.{Said, printed}
use Rattle.top_model.specs.Orders.{Text, Order, simulating}
use Rattle.top_model.specs.Machine.{simulated}
use Rattle.top_model.specs.Runs.{Run, Quiet, reads}
use Rattle.top_model.specs.Told.{Answer, Told}
use Rattle.top_model.specs.Causes.{expected, Exactly, ExactlyOf}
use Rattle.top_model.specs.Answered.{Answered}
use Rattle.top_model.specs.Simulated.{IsSaid, trying, Simulated}
use Rattle.top_model.specs.declared.report.Cause.{Cause}
use Rattle.top_model.specs.declared.report.Cause.TheVariants.{ReadFault, HostFault, InDoubt, KernelRefused, NotVerified, Damaged, HardwareDiffers, OutOfMemory}
use Rattle.top_model.proofs.lemmas.Reports.{order_is}

-- calls that are accepted one after another lead there
pub run_simulated : (n : ℕ) (calls : List Call) (from to : NetData) → Runs calls from to → simulated n calls from ≡ Ok to
run_simulated n [] from to h = ap (λ (net : NetData). Ok net) (sym h)
run_simulated n (call ∷ calls) from to h = rw h.1 (run_simulated (n + 1) calls h.0 to h.2)

-- such a text is read as the calls of its plan
text_read : (from : NetData) (doc : Doc) (text : Text) (s : IsSaid from doc text) → trying text ≡ Ok (simulating s.says.calls)
text_read from doc text s = rw (s.says.reads_back s.within) refl

abbrev answers : Said → Answer
answers said = Ok said

abbrev starved : Answer
starved = Err OutOfMemory

prints : (r : Run) (from to : NetData) (calls : List Call) → Runs calls from to → (reads r).net ≡ Some from → expected r (Ok (simulating calls)) ≡ Ok (printed None false to)
prints r from to calls runs net = rw (net, run_simulated 1 calls from to runs) refl

-- where no fault came the answer is the machine's, or out of memory
exact : (r : Run) (calls : List Call) → Quiet r → (answer : Answer) → Exactly r (simulating calls) answer → (expected r (Ok (simulating calls)) ≡ answer) ⊎ (answer ≡ starved)
exact r calls quiet (Err ReadFault) is = absurd (quiet.source is)
exact r calls quiet (Err (HostFault left)) is = absurd (quiet.host is)
exact r calls quiet (Err InDoubt) is = absurd (quiet.host is.0)
exact r calls quiet (Err (KernelRefused k n left)) is = absurd is
exact r calls quiet (Err (NotVerified found left)) is = absurd is
exact r calls quiet (Err (Damaged area)) (inl never) = absurd never
exact r calls quiet (Err (Damaged area)) (inr is) = inl is
exact r calls quiet (Err (HardwareDiffers names)) (inl never) = absurd never
exact r calls quiet (Err (HardwareDiffers names)) (inr is) = inl is
exact r calls quiet (Err OutOfMemory) is = inr refl
exact r calls quiet (Ok said) is = inl is.0
exact r calls quiet answer is = inl is

pub simulated_from : (r : Run) → Answered r → Simulated r
simulated_from r a from doc text s honest asks net quiet =
    let read = text_read from doc text s in
    let order : a.order ≡ trying text = order_is r a (trying text) asks in
    let told : Told r (trying text) a.answer = subst (λ (o : Result Order Cause). Told r o a.answer) order a.told in
    let exactly : ExactlyOf r (Ok (simulating s.says.calls)) a.answer = subst (λ (o : Result Order Cause). ExactlyOf r o a.answer) (order ∙ read) (a.exactly honest) in
    elim (exact r s.says.calls quiet a.answer exactly) [
      | inl is ↦ inl (subst (Told r (trying text)) (sym is ∙ prints r from s.to s.says.calls s.says.plan.run net) told)
      | inr is ↦ inr (subst (Told r (trying text)) is told)
    ]
