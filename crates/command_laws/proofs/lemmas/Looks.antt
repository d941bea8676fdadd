-- All that is said of a command that only looks at the network.
use Rattle.std.proofs.Common.{◌≡◌, ◌∙◌, inl, inr, refl, sym, ap, subst, arith, ℕ, Bool, [], ◌++◌, Option, None}
use Rattle.std.specs.Prelude.{◌≢◌, Vec, Result, Ok, Err}
use Rattle.std.specs.declared.alloc.Global.{Global}
use Rattle.net_model.specs.NetData.{NetData}
use Rattle.document_model.specs.declared.Doc.{Doc}
use Rattle.document_model.specs.declared.Refused.{Refused}
use Rattle.host_core.specs.HostView.{State, HostView, IsLawfulHost}
use Rattle.host_core.proofs.lemmas.Moments.{stays as stays_there}
use Rattle.checkpoint_cell.specs.Settled.{standing}
use Rattle.merge_model.specs.MergedNet.{merge}
use Rattle.engine_model.specs.Machine.{Outcome, stays}
use Rattle.engine_model.specs.Stations.{Within, Only, Before, at}
use Rattle.engine_model.specs.Faults.{IsOutcome, IsDamaged, StandsDamaged}
use Rattle.engine_model.specs.declared.Left.TheVariants as left
use Rattle.engine_model.proofs.lemmas.Leading.{alike_is, kept_stays}
use Rattle.top_model.specs.Said.{Said, Says, printed}
use Rattle.top_model.specs.Orders.{Text, Inputs, Order, showing, planning, committing, rolling_back, recovering, notes_of, order_of}
use Rattle.top_model.specs.Machine.{looked, said_plan, plan_to, machine_of}
use Rattle.top_model.specs.Texts.{error_line, note_lines}
use Rattle.top_model.specs.Runs.{Run, entry, reads, left_at_exit, MayRead}
use Rattle.top_model.specs.Told.{Answer, Told}
use Rattle.answer_text.proofs.lemmas.Told.{Plain}
use Rattle.top_model.specs.Causes.{MayWant, MayAnswer, IsDamage, Comes, Expects, ExactlyOf}
use Rattle.top_model.specs.Answered.{GoesOn, Answered}
use Rattle.top_model.specs.declared.report.DocFault.{DocFault}
use Rattle.top_model.specs.declared.report.Cause.{Cause}
use Rattle.top_model.specs.declared.report.Cause.TheVariants.{Done, DocRefused, MergeRefused, CallRefused, ReadFault, HostFault, Damaged, OutOfMemory}
use Rattle.top_model.proofs.lemmas.Wanting.{may_want_order}
use Rattle.answer_text.specs.Speaking.{Spoken}
use Rattle.answer_text.proofs.lemmas.Told.{told_done, told_noted}
use Rattle.command_laws.specs.Looked.{ChangesNothing, IsFound, Finds, Looked, HasText, LooksAs, TextOf}

pub not_rolled : left.NotBegun ≢ left.RolledBack
not_rolled e = cc

abbrev pub says : Said → Answer
says said = Ok said

abbrev pub refuses : Cause → Answer
refuses cause = Err cause

pub same_said : (a b : Said) → says a ≡ says b → a ≡ b
same_said a b e = cc

pub said_refused : (said : Said) (cause : Cause) → says said ≡ refuses cause → ⊥
said_refused said cause e = cc

-- a plan refuses no call, and no document
merge_doc : (refused : Refused) (fault : DocFault) → refuses (MergeRefused refused) ≡ refuses (DocRefused fault) → ⊥
merge_doc refused fault e = cc

merge_call : (refused : Refused) (n k : ℕ) → refuses (MergeRefused refused) ≡ refuses (CallRefused n k) → ⊥
merge_call refused n k e = cc

same_refused : (a b : Refused) → refuses (MergeRefused a) ≡ refuses (MergeRefused b) → a ≡ b
same_refused a b e = cc

abbrev broken_by : Refused → Result NetData Refused
broken_by refused = Err refused

showing_committing : (only : Option Text) (json : Bool) → showing only json ≢ committing
showing_committing only json e = cc

showing_rolling_back : (only : Option Text) (json : Bool) → showing only json ≢ rolling_back
showing_rolling_back only json e = cc

showing_recovering : (only : Option Text) (json : Bool) → showing only json ≢ recovering
showing_recovering only json e = cc

planning_committing : (doc : Doc) (in_batch : Bool) → planning doc in_batch ≢ committing
planning_committing doc in_batch e = cc

planning_rolling_back : (doc : Doc) (in_batch : Bool) → planning doc in_batch ≢ rolling_back
planning_rolling_back doc in_batch e = cc

planning_recovering : (doc : Doc) (in_batch : Bool) → planning doc in_batch ≢ recovering
planning_recovering doc in_batch e = cc

-- nothing is changed where nothing is done
pub unchanged : (tells : Type 0) (host : HostView) → ChangesNothing tells host host
unchanged tells host = record { state = λ t. refl; stops = stays_there host.stops; unmade = inl refl; later = omega arith }

-- ---- how it is told

module _ (r : Run) (order : Order) (plain : Plain r (Ok order)) (notes : Text) (same : notes ≡ note_lines (notes_of (Ok order))) where
  -- what is said was told
  pub told_text : (answer : Answer) (text : Vec ℕ Global) (line : Text) → line ≡ text.items → HasText answer (Ok text)
      → Spoken r.sinks_tell Done line (notes ++ error_line Done) r.out r.out_after r.err r.err_after r.report → Told r (Ok order) answer
  told_text (Ok said) text line is has spoken = told_done r (Ok order) plain said line notes (subst (Says said) (sym is) has) same spoken
  told_text (Err cause) text line is has spoken = absurd has

  -- a refusal was told
  pub told_refusal : (answer : Answer) (refusal : Cause) → HasText answer (Err refusal) → refusal ≢ ReadFault
      → Spoken r.sinks_tell refusal [] (notes ++ error_line refusal) r.out r.out_after r.err r.err_after r.report → Told r (Ok order) answer
  told_refusal (Ok said) refusal has other spoken = absurd has
  told_refusal (Err cause) refusal has other spoken =
      subst (λ c. Told r (Ok order) (Err c)) has
      (told_noted r (Ok order) plain refusal notes same other spoken)

-- ---- what it answers

-- the text depends on what is answered of this network alone
pub text_as : (say other : NetData → Answer) (net : NetData) (result : Result (Vec ℕ Global) Cause) → other net ≡ say net → TextOf say net result → TextOf other net result
text_as say other net (Ok text) same t = (t.0, same ∙ t.1, t.2)
text_as say other net (Err (DocRefused fault)) same t = same ∙ t
text_as say other net (Err (MergeRefused refused)) same t = same ∙ t
text_as say other net (Err (CallRefused n k)) same t = same ∙ t
text_as say other net (Err OutOfMemory) same t = tt
text_as say other net (Err cause) same t = absurd t

module _ (tells honest : Type 0) (say : NetData → Answer) (old new : HostView) where
  -- why no network is found is answered
  pub looks_fault : (cause : Cause) → Finds tells honest old new (Err cause) → LooksAs tells honest say old new (Err cause)
  looks_fault (HostFault left.NotBegun) f = record { answer = Err (HostFault left.NotBegun); looked = f; text = refl }
  looks_fault (Damaged area) f = record { answer = Err (Damaged area); looked = f; text = refl }
  looks_fault OutOfMemory f = record { answer = Err OutOfMemory; looked = tt; text = refl }
  looks_fault cause f = absurd f

  -- the text of the network that is found is answered
  pub looks_text : (net : NetData) (result : Result (Vec ℕ Global) Cause) → Finds tells honest old new (Ok net) → TextOf say net result → LooksAs tells honest say old new result
  looks_text net (Ok text) f t = record { answer = Ok t.0; looked = (net, f, t.1); text = t.2 }
  looks_text net (Err (DocRefused fault)) f t = record { answer = Err (DocRefused fault); looked = (net, f, t); text = refl }
  looks_text net (Err (MergeRefused refused)) f t = record { answer = Err (MergeRefused refused); looked = (net, f, t); text = refl }
  looks_text net (Err (CallRefused n k)) f t = record { answer = Err (CallRefused n k); looked = (net, f, t); text = refl }
  looks_text net (Err OutOfMemory) f t = record { answer = Err OutOfMemory; looked = tt; text = refl }
  looks_text net (Err cause) f t = absurd t

-- an input isn't read any more
pub not_unread : (tells honest : Type 0) (say : NetData → Answer) (old new : HostView) (answer : Answer) (refusal : Cause)
    → Looked tells honest say old new answer → HasText answer (Err refusal) → refusal ≢ ReadFault
not_unread tells honest say old new (Ok said) refusal is has same = has
not_unread tells honest say old new (Err cause) refusal is has same = subst (λ c. Looked tells honest say old new (Err c)) (sym has ∙ same) is

module _ (r : Run) (nothing : ChangesNothing r.host_tells r.host r.host_after) where
  -- the host reads as it did
  pub same_reads : r.host_tells → standing r.host_after.state ≡ reads r
  same_reads t = ap standing (nothing.state t)

  -- what is left was there
  pub left_before : Within (left_at_exit r) (Before (entry r))
  left_before stands left =
      let from = nothing.stops.now left.0 left.1 in
      record { station = stands; is = (from.0, from.1, ap standing (sym from.2) ∙ left.2); like = alike_is stands stands refl }

  -- and what is read was read
  pub reads_before : r.host_tells → Within (Only (standing r.host_after.state)) (Before (at (reads r)))
  reads_before t stands is = record { station = stands; is = is ∙ same_reads t; like = alike_is stands stands refl }

  -- what is damaged as the host reads stands so, and no call was made
  stands_damaged : (area : ℕ) → IsDamaged area r.host.state → r.host_tells → StandsDamaged r.host_tells area r.now r.host.state r.host.kernel r.host_after
  stands_damaged area is t = record { damaged = subst (λ (s : State). IsDamaged area s) (sym (nothing.state t)) is; held = inl (inr nothing.unmade) }

  -- it is told as damaged
  pub is_damage : IsLawfulHost r.host_tells r.host → (area : ℕ) → (r.host_tells → IsDamaged area r.host.state) → IsDamage r area
  is_damage lawful area is = λ t. (
    record {
      pair = r.host.state;
      left = nothing.stops.keeps r.host.stops.moment r.host.state (omega arith) (lawful.stops.counts_now r.host.stops.moment r.host.state (omega arith) (lawful.reads t));
      damaged = is t;
    },
    stands_damaged area (is t) t,
  )

  -- where no network was found, none was there
  pub had_damaged : IsLawfulHost r.host_tells r.host → (area : ℕ) → area ≡ 0 → (r.host_tells → r.host.state.net ≡ None) → IsDamage r area
  had_damaged lawful area is none = is_damage lawful area (λ t. inl (is, none t))

  -- the machine's answer
  module _ (order : Order) (say : NetData → Answer) (machine : machine_of r.now (Ok order) (reads r) ≡ stays (reads r) (looked r.host.state.net say)) (t : r.host_tells) (h : r.honest) where
    outcome : (answer : Answer) → looked r.host.state.net say ≡ answer → IsOutcome (machine_of r.now (Ok order) (reads r)) r.host_after answer
    outcome answer is = subst (λ (m : Outcome Said Cause). IsOutcome m r.host_after answer) (sym machine) (record { answer = is; after = same_reads t })

    of_found : (net : NetData) (answer : Answer) → IsFound r.host_tells r.honest r.host r.host_after net → say net ≡ answer → IsOutcome (machine_of r.now (Ok order) (reads r)) r.host_after answer
    of_found net answer found is = outcome answer (ap (λ (n : Option NetData). looked n say) (found.is h) ∙ is)

    pub expects : (answer : Answer) → MayWant r → Looked r.host_tells r.honest say r.host r.host_after answer → Expects r (Ok order) answer
    expects (Ok said) want l = of_found l.0 (Ok said) l.1 l.2
    expects (Err (DocRefused fault)) want l = of_found l.0 (Err (DocRefused fault)) l.1 l.2
    expects (Err (MergeRefused refused)) want l = of_found l.0 (Err (MergeRefused refused)) l.1 l.2
    expects (Err (CallRefused n k)) want l = of_found l.0 (Err (CallRefused n k)) l.1 l.2
    expects (Err (HostFault left.NotBegun)) want l = l
    expects (Err (Damaged area)) want l = outcome (Err (Damaged area)) (ap (λ (n : Option NetData). looked n say) (l.1 t) ∙ ap (λ (a : ℕ). refuses (Damaged a)) (sym l.0))
    expects (Err OutOfMemory) want l = want
    expects (Err cause) want l = absurd l

-- what is known of the run beside what the host did
pub record Ran (r : Run) (order : Order) (answer : Answer) : Type 0 where
  pub inputs : Inputs
  pub may_read : MayRead r inputs
  pub is : order_of r.in_script inputs r.words ≡ Ok order
  pub told : Told r (Ok order) answer
  pub goes_on : GoesOn r

-- ---- show

module _ (r : Run) (only : Option Text) (json : Bool) (nothing : ChangesNothing r.host_tells r.host r.host_after) where
  abbrev shows : NetData → Answer
  shows net = Ok (printed only json net)

  show_comes : IsLawfulHost r.host_tells r.host → MayWant r → (answer : Answer) → Looked r.host_tells r.honest shows r.host r.host_after answer → Comes r (Ok (showing only json)) answer
  show_comes lawful want (Ok said) l = record { net = l.0; dumped = l.1.fresh; is_said = same_said said (printed only json l.0) (sym l.2) }
  show_comes lawful want (Err (DocRefused fault)) l = absurd (said_refused (printed only json l.0) (DocRefused fault) l.2)
  show_comes lawful want (Err (MergeRefused refused)) l = absurd (said_refused (printed only json l.0) (MergeRefused refused) l.2)
  show_comes lawful want (Err (CallRefused n k)) l = absurd (said_refused (printed only json l.0) (CallRefused n k) l.2)
  show_comes lawful want (Err (HostFault left.NotBegun)) l = (l, (nothing.state, not_rolled))
  show_comes lawful want (Err (Damaged area)) l = had_damaged r nothing lawful area l.0 l.1
  show_comes lawful want (Err OutOfMemory) l = want
  show_comes lawful want (Err cause) l = absurd l

  show_may : (answer : Answer) → Looked r.host_tells r.honest shows r.host r.host_after answer → MayAnswer (Ok (showing only json)) answer
  show_may (Ok said) l = tt
  show_may (Err (DocRefused fault)) l = absurd (said_refused (printed only json l.0) (DocRefused fault) l.2)
  show_may (Err (MergeRefused refused)) l = absurd (said_refused (printed only json l.0) (MergeRefused refused) l.2)
  show_may (Err (CallRefused n k)) l = absurd (said_refused (printed only json l.0) (CallRefused n k) l.2)
  show_may (Err (HostFault left.NotBegun)) l = tt
  show_may (Err (Damaged area)) l = l.0
  show_may (Err OutOfMemory) l = tt
  show_may (Err cause) l = absurd l

  show_exactly : (answer : Answer) → Looked r.host_tells r.honest shows r.host r.host_after answer → Expects r (Ok (showing only json)) answer → ExactlyOf r (Ok (showing only json)) answer
  show_exactly (Ok said) l is = (is.answer, is.after)
  show_exactly (Err (DocRefused fault)) l is = is.answer
  show_exactly (Err (MergeRefused refused)) l is = is.answer
  show_exactly (Err (CallRefused n k)) l is = is.answer
  show_exactly (Err (HostFault left.NotBegun)) l is = is
  show_exactly (Err (Damaged area)) l is = inr is.answer
  show_exactly (Err OutOfMemory) l is = is
  show_exactly (Err cause) l is = absurd l

  -- all that is said of a show
  pub show_answered : (answer : Answer) → Looked r.host_tells r.honest shows r.host r.host_after answer → Ran r (showing only json) answer → Answered r
  show_answered answer l ran =
      let want : MayWant r = may_want_order r ran.inputs (showing only json) ran.is (showing_committing only json) (showing_rolling_back only json) (showing_recovering only json) in
      record {
        order = Ok (showing only json);
        gives = (ran.inputs, ran.may_read, ran.is);
        answer = answer;
        may = show_may answer l;
        comes = show_comes ran.goes_on.lawful want answer l;
        counts = nothing.unmade;
        tried = tt;
        told = ran.told;
        goes_on = ran.goes_on;
        exactly = λ honest. show_exactly answer l (expects r nothing (showing only json) shows refl (ran.goes_on.tells honest) honest answer want l);
        expects = λ a. expects r nothing (showing only json) shows refl (ran.goes_on.tells a.honest) a.honest answer want l;
        leaves = λ a. left_before r nothing;
        reads_as = λ a. reads_before r nothing (ran.goes_on.tells a.honest);
        kept = λ a. kept_stays _ r.host r.host_after a.sound nothing.stops;
        spares = λ a. tt;
        compares = λ a never. absurd never;
        looks = record { state = nothing.state; stops = nothing.stops };
        unbegun = tt;
        waits = tt;
      }

-- ---- plan

module _ (r : Run) (doc : Doc) (in_batch : Bool) (nothing : ChangesNothing r.host_tells r.host r.host_after) where
  abbrev plans : NetData → Answer
  plans net = plan_to in_batch net (merge net doc)

  -- a plan is to the merge
  plan_says : (net : NetData) (merged : Result NetData Refused) (said : Said) → plan_to in_batch net merged ≡ Ok said → (to : NetData) × (merged ≡ Ok to) × (said ≡ said_plan in_batch net to)
  plan_says net (Ok to) said is = (to, refl, same_said said (said_plan in_batch net to) (sym is))
  plan_says net (Err refused) said is = absurd (said_refused said (MergeRefused refused) (sym is))

  plan_breaks : (net : NetData) (merged : Result NetData Refused) (refused : Refused) → plan_to in_batch net merged ≡ Err (MergeRefused refused) → merged ≡ Err refused
  plan_breaks net (Ok to) refused is = absurd (said_refused (said_plan in_batch net to) (MergeRefused refused) is)
  plan_breaks net (Err broken) refused is = ap broken_by (same_refused broken refused is)

  plan_docs : (net : NetData) (merged : Result NetData Refused) (fault : DocFault) → plan_to in_batch net merged ≡ Err (DocRefused fault) → ⊥
  plan_docs net (Ok to) fault is = said_refused (said_plan in_batch net to) (DocRefused fault) is
  plan_docs net (Err broken) fault is = merge_doc broken fault is

  plan_calls : (net : NetData) (merged : Result NetData Refused) (n k : ℕ) → plan_to in_batch net merged ≡ Err (CallRefused n k) → ⊥
  plan_calls net (Ok to) n k is = said_refused (said_plan in_batch net to) (CallRefused n k) is
  plan_calls net (Err broken) n k is = merge_call broken n k is

  plan_comes : IsLawfulHost r.host_tells r.host → MayWant r → (answer : Answer) → Looked r.host_tells r.honest plans r.host r.host_after answer → Comes r (Ok (planning doc in_batch)) answer
  plan_comes lawful want (Ok said) l =
      let p = plan_says l.0 (merge l.0 doc) said l.2 in
      record { from = l.0; to = p.0; dumped = l.1.fresh; merges = p.1; is_said = p.2 }
  plan_comes lawful want (Err (DocRefused fault)) l = absurd (plan_docs l.0 (merge l.0 doc) fault l.2)
  plan_comes lawful want (Err (MergeRefused refused)) l =
      (λ t. record { doc = doc; net = l.0; is_doc = refl; dumped = l.1.fresh t; broken = plan_breaks l.0 (merge l.0 doc) refused l.2 }, same_reads r nothing)
  plan_comes lawful want (Err (CallRefused n k)) l = absurd (plan_calls l.0 (merge l.0 doc) n k l.2)
  plan_comes lawful want (Err (HostFault left.NotBegun)) l = (l, (nothing.state, not_rolled))
  plan_comes lawful want (Err (Damaged area)) l = had_damaged r nothing lawful area l.0 l.1
  plan_comes lawful want (Err OutOfMemory) l = want
  plan_comes lawful want (Err cause) l = absurd l

  plan_may : (answer : Answer) → Looked r.host_tells r.honest plans r.host r.host_after answer → MayAnswer (Ok (planning doc in_batch)) answer
  plan_may (Ok said) l = tt
  plan_may (Err (DocRefused fault)) l = absurd (plan_docs l.0 (merge l.0 doc) fault l.2)
  plan_may (Err (MergeRefused refused)) l = tt
  plan_may (Err (CallRefused n k)) l = absurd (plan_calls l.0 (merge l.0 doc) n k l.2)
  plan_may (Err (HostFault left.NotBegun)) l = tt
  plan_may (Err (Damaged area)) l = l.0
  plan_may (Err OutOfMemory) l = tt
  plan_may (Err cause) l = absurd l

  plan_exactly : (answer : Answer) → Looked r.host_tells r.honest plans r.host r.host_after answer → Expects r (Ok (planning doc in_batch)) answer → ExactlyOf r (Ok (planning doc in_batch)) answer
  plan_exactly (Ok said) l is = (is.answer, is.after)
  plan_exactly (Err (DocRefused fault)) l is = is.answer
  plan_exactly (Err (MergeRefused refused)) l is = is.answer
  plan_exactly (Err (CallRefused n k)) l is = is.answer
  plan_exactly (Err (HostFault left.NotBegun)) l is = is
  plan_exactly (Err (Damaged area)) l is = inr is.answer
  plan_exactly (Err OutOfMemory) l is = is
  plan_exactly (Err cause) l is = absurd l

  -- all that is said of a plan
  pub plan_answered : (answer : Answer) → Looked r.host_tells r.honest plans r.host r.host_after answer → Ran r (planning doc in_batch) answer → Answered r
  plan_answered answer l ran =
      let want : MayWant r = may_want_order r ran.inputs (planning doc in_batch) ran.is (planning_committing doc in_batch) (planning_rolling_back doc in_batch) (planning_recovering doc in_batch) in
      record {
        order = Ok (planning doc in_batch);
        gives = (ran.inputs, ran.may_read, ran.is);
        answer = answer;
        may = plan_may answer l;
        comes = plan_comes ran.goes_on.lawful want answer l;
        counts = nothing.unmade;
        tried = tt;
        told = ran.told;
        goes_on = ran.goes_on;
        exactly = λ honest. plan_exactly answer l (expects r nothing (planning doc in_batch) plans refl (ran.goes_on.tells honest) honest answer want l);
        expects = λ a. expects r nothing (planning doc in_batch) plans refl (ran.goes_on.tells a.honest) a.honest answer want l;
        leaves = λ a. left_before r nothing;
        reads_as = λ a. reads_before r nothing (ran.goes_on.tells a.honest);
        kept = λ a. kept_stays _ r.host r.host_after a.sound nothing.stops;
        spares = λ a. tt;
        compares = λ a never. absurd never;
        looks = record { state = nothing.state; stops = nothing.stops };
        unbegun = tt;
        waits = tt;
      }
