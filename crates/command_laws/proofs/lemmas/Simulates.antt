-- All that is said of a command that tries out calls.
use Rattle.std.proofs.Common.{◌≡◌, ◌∙◌, inr, refl, sym, ap, subst, ℕ, List, [], ◌∷◌, ◌+◌, ◌<◌, ◌≤◌, drop, get_or, length, None, false}
use Rattle.std.specs.Prelude.{◌≢◌, Result, Ok, Err, Vec}
use Rattle.std.specs.declared.alloc.Global.{Global}
use Rattle.std.proofs.lemmas.List.{drop_more, drop_all}
use Rattle.net_model.specs.NetData.{NetData}
use Rattle.net_model.specs.declared.Call.{Call}
use Rattle.document_model.specs.declared.Refused.{Refused}
use Rattle.kernel_model.specs.Kernel.{step}
use Rattle.host_core.specs.HostView.{IsLawfulHost}
use Rattle.engine_model.specs.declared.Left.TheVariants as left
use Rattle.engine_model.proofs.lemmas.Leading.{kept_stays}
use Rattle.top_model.specs.Said.{Said, printed}
use Rattle.top_model.specs.Orders.{simulating, committing, rolling_back, recovering}
use Rattle.top_model.specs.Machine.{unless_refused, simulated, print_simulated}
use Rattle.top_model.specs.Runs.{Run}
use Rattle.top_model.specs.Told.{Answer}
use Rattle.top_model.specs.Causes.{MayWant, MayAnswer, Comes, Expects, ExactlyOf}
use Rattle.top_model.specs.Answered.{Answered}
use Rattle.top_model.specs.declared.report.DocFault.{DocFault}
use Rattle.top_model.specs.declared.report.Cause.{Cause}
use Rattle.top_model.specs.declared.report.Cause.TheVariants.{DocRefused, MergeRefused, CallRefused, HostFault, Damaged, OutOfMemory}
use Rattle.top_model.proofs.lemmas.Wanting.{may_want_order}
use Rattle.command_laws.specs.Looked.{ChangesNothing, Looked, TextOf, LeadsTo}
use Rattle.command_laws.proofs.lemmas.Looks.{not_rolled, refuses, same_said, said_refused, same_reads, left_before, reads_before, had_damaged, expects, Ran}

simulating_committing : (calls : List Call) → simulating calls ≢ committing
simulating_committing calls e = cc

simulating_rolling_back : (calls : List Call) → simulating calls ≢ rolling_back
simulating_rolling_back calls e = cc

simulating_recovering : (calls : List Call) → simulating calls ≢ recovering
simulating_recovering calls e = cc

-- ---- one call after the other

-- the next of the calls is carried out, and those that follow lead on from there
first_accepted : (n : ℕ) (call : Call) (calls : List Call) (net next : NetData) → step call net ≡ Ok next → simulated n (call ∷ calls) net ≡ simulated (n + 1) calls next
first_accepted n call calls net next is = rw is refl

first_refused : (n k : ℕ) (call : Call) (calls : List Call) (net : NetData) → step call net ≡ Err k → simulated n (call ∷ calls) net ≡ Err (CallRefused n k)
first_refused n k call calls net is = rw is refl

pub accepted_next : (calls : List Call) (i : ℕ) (d call : Call) (net next : NetData) → call ≡ get_or calls i d → i < length calls → step call net ≡ Ok next
    → simulated (i + 1) (drop i calls) net ≡ simulated (i + 1 + 1) (drop (i + 1) calls) next
accepted_next calls i d call net next at lt is =
    ap (λ (l : List Call). simulated (i + 1) l net) (drop_more calls i d lt)
    ∙ first_accepted (i + 1) (get_or calls i d) (drop (i + 1) calls) net next (subst (λ (c : Call). step c net ≡ Ok next) at is)

-- the next of them is refused
pub refused_next : (calls : List Call) (i : ℕ) (d call : Call) (k : ℕ) (net : NetData) → call ≡ get_or calls i d → i < length calls → step call net ≡ Err k
    → simulated (i + 1) (drop i calls) net ≡ Err (CallRefused (i + 1) k)
refused_next calls i d call k net at lt is =
    ap (λ (l : List Call). simulated (i + 1) l net) (drop_more calls i d lt)
    ∙ first_refused (i + 1) k (get_or calls i d) (drop (i + 1) calls) net (subst (λ (c : Call). step c net ≡ Err k) at is)

-- none is left
pub none_left : (calls : List Call) (i : ℕ) (net : NetData) → length calls ≤ i → simulated (i + 1) (drop i calls) net ≡ Ok net
none_left calls i net past = ap (λ (l : List Call). simulated (i + 1) l net) (drop_all i calls past)

-- ---- what is answered

abbrev leads : NetData → Result NetData Cause
leads net = Ok net

abbrev leads_not : Cause → Result NetData Cause
leads_not cause = Err cause

same_cause : (a b : Cause) → refuses a ≡ refuses b → a ≡ b
same_cause a b e = cc

merge_call : (refused : Refused) (n k : ℕ) → leads_not (CallRefused n k) ≡ leads_not (MergeRefused refused) → ⊥
merge_call refused n k e = cc

never_merged : (refused : Refused) (net : NetData) → leads net ≡ leads_not (MergeRefused refused) → ⊥
never_merged refused net e = cc

doc_call : (fault : DocFault) (n k : ℕ) → leads_not (CallRefused n k) ≡ leads_not (DocRefused fault) → ⊥
doc_call fault n k e = cc

never_read : (fault : DocFault) (net : NetData) → leads net ≡ leads_not (DocRefused fault) → ⊥
never_read fault net e = cc

-- no document is refused by calls
no_doc_next : (fault : DocFault) (n : ℕ) (stepped : Result NetData ℕ) (rest : NetData → Result NetData Cause) → ((net : NetData) → rest net ≡ leads_not (DocRefused fault) → ⊥)
    → unless_refused n stepped rest ≡ leads_not (DocRefused fault) → ⊥
no_doc_next fault n (Ok next) rest never is = never next is
no_doc_next fault n (Err k) rest never is = doc_call fault n k is

no_doc : (fault : DocFault) (n : ℕ) (calls : List Call) (net : NetData) → simulated n calls net ≡ leads_not (DocRefused fault) → ⊥
no_doc fault n [] net is = never_read fault net is
no_doc fault n (call ∷ calls) net is = no_doc_next fault n (step call net) (simulated (n + 1) calls) (no_doc fault (n + 1) calls) is

-- and no rule is broken
no_rule_next : (refused : Refused) (n : ℕ) (stepped : Result NetData ℕ) (rest : NetData → Result NetData Cause) → ((net : NetData) → rest net ≡ leads_not (MergeRefused refused) → ⊥)
    → unless_refused n stepped rest ≡ leads_not (MergeRefused refused) → ⊥
no_rule_next refused n (Ok next) rest never is = never next is
no_rule_next refused n (Err k) rest never is = merge_call refused n k is

no_rule : (refused : Refused) (n : ℕ) (calls : List Call) (net : NetData) → simulated n calls net ≡ leads_not (MergeRefused refused) → ⊥
no_rule refused n [] net is = never_merged refused net is
no_rule refused n (call ∷ calls) net is = no_rule_next refused n (step call net) (simulated (n + 1) calls) (no_rule refused (n + 1) calls) is

-- what is printed is where the calls lead
prints : (led : Result NetData Cause) (said : Said) → print_simulated led ≡ Ok said → (to : NetData) × (led ≡ Ok to) × (said ≡ printed None false to)
prints (Ok to) said is = (to, refl, same_said said (printed None false to) (sym is))
prints (Err cause) said is = absurd (said_refused said cause (sym is))

-- and what is refused is the call
refuses_led : (led : Result NetData Cause) (cause : Cause) → print_simulated led ≡ Err cause → led ≡ Err cause
refuses_led (Ok to) cause is = absurd (said_refused (printed None false to) cause is)
refuses_led (Err own) cause is = ap leads_not (same_cause own cause is)

module _ (r : Run) (calls : List Call) (nothing : ChangesNothing r.host_tells r.host r.host_after) where
  abbrev simulates : NetData → Answer
  simulates net = print_simulated (simulated 1 calls net)

  broken : (refused : Refused) (net : NetData) → simulates net ≡ Err (MergeRefused refused) → ⊥
  broken refused net is = no_rule refused 1 calls net (refuses_led (simulated 1 calls net) (MergeRefused refused) is)

  unread : (fault : DocFault) (net : NetData) → simulates net ≡ Err (DocRefused fault) → ⊥
  unread fault net is = no_doc fault 1 calls net (refuses_led (simulated 1 calls net) (DocRefused fault) is)

  simulate_comes : IsLawfulHost r.host_tells r.host → MayWant r → (answer : Answer) → Looked r.host_tells r.honest simulates r.host r.host_after answer → Comes r (Ok (simulating calls)) answer
  simulate_comes lawful want (Ok said) l =
      let p = prints (simulated 1 calls l.0) said l.2 in
      record { from = l.0; to = p.0; dumped = l.1.fresh; leads = p.1; is_said = p.2 }
  simulate_comes lawful want (Err (DocRefused fault)) l = absurd (unread fault l.0 l.2)
  simulate_comes lawful want (Err (MergeRefused refused)) l = absurd (broken refused l.0 l.2)
  simulate_comes lawful want (Err (CallRefused n k)) l =
      (record { calls = calls; from = l.0; is_order = refl; dumped = l.1.fresh; refused = refuses_led (simulated 1 calls l.0) (CallRefused n k) l.2 }, same_reads r nothing)
  simulate_comes lawful want (Err (HostFault left.NotBegun)) l = (l, (nothing.state, not_rolled))
  simulate_comes lawful want (Err (Damaged area)) l = had_damaged r nothing lawful area l.0 l.1
  simulate_comes lawful want (Err OutOfMemory) l = want
  simulate_comes lawful want (Err cause) l = absurd l

  simulate_may : (answer : Answer) → Looked r.host_tells r.honest simulates r.host r.host_after answer → MayAnswer (Ok (simulating calls)) answer
  simulate_may (Ok said) l = tt
  simulate_may (Err (DocRefused fault)) l = absurd (unread fault l.0 l.2)
  simulate_may (Err (MergeRefused refused)) l = absurd (broken refused l.0 l.2)
  simulate_may (Err (CallRefused n k)) l = tt
  simulate_may (Err (HostFault left.NotBegun)) l = tt
  simulate_may (Err (Damaged area)) l = l.0
  simulate_may (Err OutOfMemory) l = tt
  simulate_may (Err cause) l = absurd l

  simulate_exactly : (answer : Answer) → Looked r.host_tells r.honest simulates r.host r.host_after answer → Expects r (Ok (simulating calls)) answer → ExactlyOf r (Ok (simulating calls)) answer
  simulate_exactly (Ok said) l is = (is.answer, is.after)
  simulate_exactly (Err (DocRefused fault)) l is = is.answer
  simulate_exactly (Err (MergeRefused refused)) l is = is.answer
  simulate_exactly (Err (CallRefused n k)) l is = is.answer
  simulate_exactly (Err (HostFault left.NotBegun)) l is = is
  simulate_exactly (Err (Damaged area)) l is = inr is.answer
  simulate_exactly (Err OutOfMemory) l is = is
  simulate_exactly (Err cause) l is = absurd l

  -- all that is said of it
  pub simulate_answered : (answer : Answer) → Looked r.host_tells r.honest simulates r.host r.host_after answer → Ran r (simulating calls) answer → Answered r
  simulate_answered answer l ran =
      let want : MayWant r = may_want_order r ran.inputs (simulating calls) ran.is (simulating_committing calls) (simulating_rolling_back calls) (simulating_recovering calls) in
      record {
        order = Ok (simulating calls);
        gives = (ran.inputs, ran.may_read, ran.is);
        answer = answer;
        may = simulate_may answer l;
        comes = simulate_comes ran.goes_on.lawful want answer l;
        counts = nothing.unmade;
        tried = tt;
        told = ran.told;
        goes_on = ran.goes_on;
        exactly = λ honest. simulate_exactly answer l (expects r nothing (simulating calls) simulates refl (ran.goes_on.tells honest) honest answer want l);
        expects = λ a. expects r nothing (simulating calls) simulates refl (ran.goes_on.tells a.honest) a.honest answer want l;
        leaves = λ a. left_before r nothing;
        reads_as = λ a. reads_before r nothing (ran.goes_on.tells a.honest);
        kept = λ a. kept_stays _ r.host r.host_after a.sound nothing.stops;
        spares = λ a. tt;
        compares = λ a never. absurd never;
        looks = record { state = nothing.state; stops = nothing.stops };
        unbegun = tt;
        waits = tt;
      }

-- ---- the text of it

-- of the network that the calls lead to
pub text_to : (calls : List Call) (net to : NetData) (result : Result (Vec ℕ Global) Cause) → simulated 1 calls net ≡ Ok to → TextOf (λ (n : NetData). Ok (printed None false n)) to result
    → TextOf (λ (n : NetData). print_simulated (simulated 1 calls n)) net result
text_to calls net to (Ok text) led t = (t.0, ap print_simulated led ∙ t.1, t.2)
text_to calls net to (Err (DocRefused fault)) led t = ap print_simulated led ∙ t
text_to calls net to (Err (MergeRefused refused)) led t = ap print_simulated led ∙ t
text_to calls net to (Err (CallRefused n k)) led t = ap print_simulated led ∙ t
text_to calls net to (Err OutOfMemory) led t = tt
text_to calls net to (Err cause) led t = absurd t

-- there is none, where a call is refused
pub text_not : (calls : List Call) (net : NetData) (cause : Cause) → LeadsTo calls net (Err cause) → TextOf (λ (n : NetData). print_simulated (simulated 1 calls n)) net (Err cause)
text_not calls net (CallRefused n k) led = ap print_simulated led
text_not calls net OutOfMemory led = tt
text_not calls net cause led = absurd led
