-- All that is said of a command that evaluates a policy on the network that is found.
use Rattle.std.proofs.Common.{◌≡◌, ◌∙◌, inl, inr, refl, sym, ap, subst, ℕ, List, Bool, true, false, [], ◌++◌, Option, None, Some}
use Rattle.std.specs.Prelude.{◌≢◌, if◌then◌else◌, not, nat_le, map, unwrap_or, Vec, Result, Ok, Err}
use Rattle.std.specs.declared.alloc.Global.{Global}
use Rattle.base_model.specs.declared.path.PathStep.TheVariants.{Key}
use Rattle.doc_tree.specs.Shape.{Shape, shape, nothing, levels}
use Rattle.doc_tree.specs.declared.limits.TheConstants.{MAX_LEVELS}
use Rattle.tree_schema.specs.declared.SchemaFault.{SchemaFault}
use Rattle.net_model.specs.NetData.{NetData}
use Rattle.document_model.specs.declared.Doc.{Doc}
use Rattle.document_model.specs.declared.Refused.{Refused}
use Rattle.show_core.specs.Network.{network_tree}
use Rattle.policy_model.specs.declared.limits.TheConstants.{MAX_NODES}
use Rattle.policy_model.specs.Keys.{desired_word}
use Rattle.policy_model.specs.Places.{Steps as Way, below, places, filled}
use Rattle.policy_model.specs.Values.{PolicyData, first_empty, first_nowhere, place_value, nodes, unless, within_limits, filled_or, policy_value}
use Rattle.policy_model.specs.declared.PolicyFault.{PolicyFault}
use Rattle.policy_model.specs.declared.PolicyFault.TheVariants as policy_fault
use Rattle.host_core.specs.HostView.{HostView, IsLawfulHost}
use Rattle.host_core.specs.Streams.{SinkView}
use Rattle.merge_model.specs.MergedNet.{merge}
use Rattle.engine_model.specs.declared.Left.TheVariants as left
use Rattle.engine_model.proofs.lemmas.Leading.{kept_stays}
use Rattle.order_reading.specs.Reading.{Answers, itself}
use Rattle.top_model.specs.Said.{Said, Says, evaluated}
use Rattle.top_model.specs.Orders.{Text, Order, evaluating, planning_policy, committing, rolling_back, recovering, and_then, with_fault, document_of_tree, value_on, document_on}
use Rattle.top_model.specs.Machine.{said_plan, plan_to, plan_read, say_value}
use Rattle.top_model.specs.Texts.{error_line, note_lines}
use Rattle.top_model.specs.Runs.{Run}
use Rattle.top_model.specs.Grounds.{IsGround, Grounds, TakesFirst}
use Rattle.top_model.specs.Told.{Answer, Told, NotedOn, PlanErr, ErrTextOn, cause_of}
use Rattle.top_model.specs.Causes.{MayWant, MayAnswer, Comes, Expects, ExactlyOf, IsLate, HasNoValue}
use Rattle.top_model.specs.Answered.{Answered}
use Rattle.top_model.specs.declared.report.DocFault.{DocFault}
use Rattle.top_model.specs.declared.report.DocFault.TheVariants.{Schema, Policy}
use Rattle.top_model.specs.declared.report.Report.{Report}
use Rattle.top_model.specs.declared.report.Cause.{Cause}
use Rattle.top_model.specs.declared.report.Cause.TheVariants.{Done, DocRefused, MergeRefused, CallRefused, BadLine, BatchLine, BatchLarge, HostFault, Damaged, OutOfMemory}
use Rattle.top_model.proofs.lemmas.Noting.{err_wider}
use Rattle.top_model.proofs.lemmas.Wanting.{may_want_order}
use Rattle.answer_text.specs.Speaking.{Spoken}
use Rattle.answer_text.proofs.lemmas.Told.{written, told_refused}
use Rattle.command_laws.specs.Looked.{ChangesNothing, IsFound, Finds, Looked, TextOf}
use Rattle.command_laws.specs.Noted.{AnswersOf, TellsOf, ReadErr}
use Rattle.command_laws.proofs.lemmas.Looks.{not_rolled, refuses, same_said, said_refused, same_reads, left_before, reads_before, had_damaged, expects, Ran}

evaluating_committing : (p : PolicyData) → evaluating p ≢ committing
evaluating_committing p e = cc

evaluating_rolling_back : (p : PolicyData) → evaluating p ≢ rolling_back
evaluating_rolling_back p e = cc

evaluating_recovering : (p : PolicyData) → evaluating p ≢ recovering
evaluating_recovering p e = cc

planning_committing : (p : PolicyData) (in_batch : Bool) → planning_policy p in_batch ≢ committing
planning_committing p in_batch e = cc

planning_rolling_back : (p : PolicyData) (in_batch : Bool) → planning_policy p in_batch ≢ rolling_back
planning_rolling_back p in_batch e = cc

planning_recovering : (p : PolicyData) (in_batch : Bool) → planning_policy p in_batch ≢ recovering
planning_recovering p in_batch e = cc

-- ---- why a policy is refused on a network

abbrev errs : (A : Type 0) → Cause → Result A Cause
errs A c = Err c

ok_err : (A : Type 0) (x : A) (c : Cause) → Ok x ≡ errs A c → ⊥
ok_err A x c e = cc

same_cause : (A : Type 0) (a b : Cause) → errs A a ≡ errs A b → a ≡ b
same_cause A a b e = cc

same_fault : (A : Type 0) (a b : DocFault) → errs A (DocRefused a) ≡ errs A (DocRefused b) → a ≡ b
same_fault A a b e = cc

-- a value is refused for its places, or as too deep or too large
abbrev IsValueFault : Result Shape PolicyFault → Type 0
IsValueFault (Ok tree) = Unit {0}
IsValueFault (Err (policy_fault.NoValue path)) = Unit {0}
IsValueFault (Err policy_fault.TooDeep) = Unit {0}
IsValueFault (Err policy_fault.TooLarge) = Unit {0}
IsValueFault (Err _) = ⊥

fault_unless : (way : Option Way) (r : Result Shape PolicyFault) → IsValueFault r → IsValueFault (unless policy_fault.NoValue way r)
fault_unless None r is = is
fault_unless (Some way) r is = tt

fault_limits : (deep large : Bool) (tree : Shape) → IsValueFault (if deep then Err policy_fault.TooDeep else if large then Err policy_fault.TooLarge else Ok tree)
fault_limits true large tree = tt
fault_limits false true tree = tt
fault_limits false false tree = tt

fault_within : (tree : Shape) → IsValueFault (within_limits tree)
fault_within tree = fault_limits (not (nat_le (levels tree) MAX_LEVELS)) (not (nat_le (nodes tree) MAX_NODES)) tree

fault_filled : (value : Text → Option Shape) (p : PolicyData) → IsValueFault (filled_or value p)
fault_filled value p =
    let tree = filled (λ inner. unwrap_or (place_value value inner) nothing) p.desired in
    let nowhere = first_nowhere value (map (below (Key desired_word)) (places p.desired)) in
    fault_unless (first_empty value p.captures) (unless policy_fault.NoValue nowhere (within_limits tree)) (fault_unless nowhere (within_limits tree) (fault_within tree))

fault_of_value : (running : Shape) (p : PolicyData) → IsValueFault (policy_value running p)
unfolding policy_value
fault_of_value running p = fault_filled _ p

module _ (fault : DocFault) where
  has_no_value : (r : Result Shape PolicyFault) → IsValueFault r → with_fault Policy r ≡ errs Shape (DocRefused fault) → HasNoValue fault
  has_no_value (Ok tree) late is = absurd (ok_err Shape tree (DocRefused fault) is)
  has_no_value (Err (policy_fault.NoValue path)) late is = subst HasNoValue (same_fault Shape (Policy (policy_fault.NoValue path)) fault is) tt
  has_no_value (Err policy_fault.TooDeep) late is = subst HasNoValue (same_fault Shape (Policy policy_fault.TooDeep) fault is) tt
  has_no_value (Err policy_fault.TooLarge) late is = subst HasNoValue (same_fault Shape (Policy policy_fault.TooLarge) fault is) tt
  has_no_value (Err e) late is = absurd late

  -- a policy without a value
  value_refused : (p : PolicyData) (net : NetData) → value_on p net ≡ errs Shape (DocRefused fault) → HasNoValue fault
  unfolding value_on
  value_refused p net is = has_no_value (policy_value (network_tree net None) p) (fault_of_value (network_tree net None) p) is

  -- or whose value is no document
  pub document_refused : (p : PolicyData) (net : NetData) → document_on p net ≡ errs Doc (DocRefused fault) → IsLate fault
  unfolding document_on
  document_refused p net is = of_value (value_on p net) (value_refused p net) is
    where
      late_value : (f : DocFault) → HasNoValue f → IsLate f
      late_value (Policy refusal) has = has
      late_value f has = absurd has

      of_tree : (x : Result Doc SchemaFault) → with_fault Schema x ≡ errs Doc (DocRefused fault) → IsLate fault
      of_tree (Ok doc) is = absurd (ok_err Doc doc (DocRefused fault) is)
      of_tree (Err e) is = subst IsLate (same_fault Doc (Schema e) fault is) tt

      of_value : (v : Result Shape Cause) → (v ≡ errs Shape (DocRefused fault) → HasNoValue fault) → and_then v (λ tree. with_fault Schema (document_of_tree tree)) ≡ errs Doc (DocRefused fault) → IsLate fault
      of_value (Ok tree) late is = of_tree (document_of_tree tree) is
      of_value (Err c) late is = late_value fault (late (ap (errs Shape) (same_cause Doc c (DocRefused fault) is)))

-- nothing else refuses it
abbrev IsRefusal : Cause → Type 0
IsRefusal (DocRefused fault) = Unit {0}
IsRefusal c = ⊥

refusal_of : (A E : Type 0) (fault : E → DocFault) (r : Result A E) (c : Cause) → with_fault fault r ≡ errs A c → IsRefusal c
refusal_of A E fault (Ok x) c is = absurd (ok_err A x c is)
refusal_of A E fault (Err e) c is = subst IsRefusal (same_cause A (DocRefused (fault e)) c is) tt

value_refusal : (p : PolicyData) (net : NetData) (c : Cause) → value_on p net ≡ errs Shape c → IsRefusal c
unfolding value_on
value_refusal p net c is = refusal_of Shape _ Policy (policy_value (network_tree net None) p) c is

document_refusal : (p : PolicyData) (net : NetData) (c : Cause) → document_on p net ≡ errs Doc c → IsRefusal c
unfolding document_on
document_refusal p net c is = go (value_on p net) (value_refusal p net c) is
  where
    go : (v : Result Shape Cause) → (v ≡ errs Shape c → IsRefusal c) → and_then v (λ tree. with_fault Schema (document_of_tree tree)) ≡ errs Doc c → IsRefusal c
    go (Ok tree) late is = refusal_of Doc _ Schema (document_of_tree tree) c is
    go (Err e) late is = late (ap (errs Shape) (same_cause Doc e c is))

-- ---- the network that was found is the one on which the policy was evaluated

module _ (r : Run) (net : NetData) (found : IsFound r.host_tells r.honest r.host r.host_after net) where
  ground_value : (p : PolicyData) → IsGround r (evaluating p) net
  ground_value p = record { dumped = λ once. found.fresh; stood = found.is }

  pub ground_plan : (p : PolicyData) (in_batch : Bool) → IsGround r (planning_policy p in_batch) net
  ground_plan p in_batch = record { dumped = λ once. found.fresh; stood = found.is }

-- ---- the value

says_value : (v : Result Shape Cause) (said : Said) → say_value v ≡ Ok said → (tree : Shape) × (v ≡ Ok tree) × (said ≡ evaluated tree)
says_value (Ok tree) said is = (tree, refl, same_said said (evaluated tree) (sym is))
says_value (Err c) said is = absurd (said_refused said c (sym is))

refuses_value : (v : Result Shape Cause) (c : Cause) → say_value v ≡ refuses c → v ≡ errs Shape c
refuses_value (Ok tree) c is = absurd (said_refused (evaluated tree) c is)
refuses_value (Err own) c is = ap (errs Shape) (same_cause Said own c is)

module _ (r : Run) (p : PolicyData) (nothing : ChangesNothing r.host_tells r.host r.host_after) where
  abbrev values : NetData → Answer
  values net = say_value (value_on p net)

  not_so : (net : NetData) (c : Cause) → (IsRefusal c → ⊥) → values net ≡ refuses c → ⊥
  not_so net c other is = other (value_refusal p net c (refuses_value (value_on p net) c is))

  value_comes : IsLawfulHost r.host_tells r.host → MayWant r → (answer : Answer) → Looked r.host_tells r.honest values r.host r.host_after answer → Comes r (Ok (evaluating p)) answer
  value_comes lawful want (Ok said) l =
      let v = says_value (value_on p l.0) said l.2 in
      record { net = l.0; tree = v.0; is_ground = ground_value r l.0 l.1 p; value = v.1; is_said = v.2 }
  value_comes lawful want (Err (DocRefused fault)) l = (record { net = l.0; fresh = l.1.fresh; is_ground = ground_value r l.0 l.1 p; refused = refuses_value (value_on p l.0) (DocRefused fault) l.2 }, same_reads r nothing)
  value_comes lawful want (Err (MergeRefused refused)) l = absurd (not_so l.0 (MergeRefused refused) (λ never. never) l.2)
  value_comes lawful want (Err (CallRefused n k)) l = absurd (not_so l.0 (CallRefused n k) (λ never. never) l.2)
  value_comes lawful want (Err (HostFault left.NotBegun)) l = (l, (nothing.state, not_rolled))
  value_comes lawful want (Err (Damaged area)) l = had_damaged r nothing lawful area l.0 l.1
  value_comes lawful want (Err OutOfMemory) l = want
  value_comes lawful want (Err cause) l = absurd l

  value_may : (answer : Answer) → Looked r.host_tells r.honest values r.host r.host_after answer → MayAnswer (Ok (evaluating p)) answer
  value_may (Ok said) l = tt
  value_may (Err (DocRefused fault)) l = value_refused fault p l.0 (refuses_value (value_on p l.0) (DocRefused fault) l.2)
  value_may (Err (MergeRefused refused)) l = absurd (not_so l.0 (MergeRefused refused) (λ never. never) l.2)
  value_may (Err (CallRefused n k)) l = absurd (not_so l.0 (CallRefused n k) (λ never. never) l.2)
  value_may (Err (HostFault left.NotBegun)) l = tt
  value_may (Err (Damaged area)) l = l.0
  value_may (Err OutOfMemory) l = tt
  value_may (Err cause) l = absurd l

  value_exactly : (answer : Answer) → Looked r.host_tells r.honest values r.host r.host_after answer → Expects r (Ok (evaluating p)) answer → ExactlyOf r (Ok (evaluating p)) answer
  value_exactly (Ok said) l is = (is.answer, is.after)
  value_exactly (Err (DocRefused fault)) l is = is.answer
  value_exactly (Err (MergeRefused refused)) l is = is.answer
  value_exactly (Err (CallRefused n k)) l is = is.answer
  value_exactly (Err (HostFault left.NotBegun)) l is = is
  value_exactly (Err (Damaged area)) l is = inr is.answer
  value_exactly (Err OutOfMemory) l is = is
  value_exactly (Err cause) l is = absurd l

  -- all that is said of it
  pub value_answered : (answer : Answer) → Looked r.host_tells r.honest values r.host r.host_after answer → Ran r (evaluating p) answer → Answered r
  value_answered answer l ran =
      let want : MayWant r = may_want_order r ran.inputs (evaluating p) ran.is (evaluating_committing p) (evaluating_rolling_back p) (evaluating_recovering p) in
      record {
        order = Ok (evaluating p);
        gives = (ran.inputs, ran.may_read, ran.is);
        answer = answer;
        may = value_may answer l;
        comes = value_comes ran.goes_on.lawful want answer l;
        counts = nothing.unmade;
        tried = tt;
        told = ran.told;
        goes_on = ran.goes_on;
        exactly = λ honest. value_exactly answer l (expects r nothing (evaluating p) values refl (ran.goes_on.tells honest) honest answer want l);
        expects = λ a. expects r nothing (evaluating p) values refl (ran.goes_on.tells a.honest) a.honest answer want l;
        leaves = λ a. left_before r nothing;
        reads_as = λ a. reads_before r nothing (ran.goes_on.tells a.honest);
        kept = λ a. kept_stays _ r.host r.host_after a.sound nothing.stops;
        spares = λ a. tt;
        compares = λ a never. absurd never;
        looks = record { state = nothing.state; stops = nothing.stops };
        unbegun = tt;
        waits = tt;
      }

-- ---- a plan for it

no_plan_docs : (in_batch : Bool) (net : NetData) (merged : Result NetData Refused) (fault : DocFault) → plan_to in_batch net merged ≡ refuses (DocRefused fault) → ⊥
no_plan_docs in_batch net (Ok to) fault is = said_refused (said_plan in_batch net to) (DocRefused fault) is
no_plan_docs in_batch net (Err broken) fault is = merge_doc broken fault is
  where
    merge_doc : (refused : Refused) (fault : DocFault) → refuses (MergeRefused refused) ≡ refuses (DocRefused fault) → ⊥
    merge_doc refused fault e = cc

no_plan_calls : (in_batch : Bool) (net : NetData) (merged : Result NetData Refused) (n k : ℕ) → plan_to in_batch net merged ≡ refuses (CallRefused n k) → ⊥
no_plan_calls in_batch net (Ok to) n k is = said_refused (said_plan in_batch net to) (CallRefused n k) is
no_plan_calls in_batch net (Err broken) n k is = merge_call broken n k is
  where
    merge_call : (refused : Refused) (n k : ℕ) → refuses (MergeRefused refused) ≡ refuses (CallRefused n k) → ⊥
    merge_call refused n k e = cc

-- a plan from one network, to what was merged
record LeadsTo (in_batch : Bool) (net : NetData) (m : Result Doc Cause) (said : Said) : Type 0 where
  pub doc : Doc
  pub to : NetData
  pub reads : m ≡ Ok doc
  pub merges : merge net doc ≡ Ok to
  pub is_said : said ≡ said_plan in_batch net to

module _ (in_batch : Bool) (net : NetData) where
  says_plan : (doc : Doc) (merged : Result NetData Refused) (said : Said) → merge net doc ≡ merged → plan_to in_batch net merged ≡ Ok said → LeadsTo in_batch net (Ok doc) said
  says_plan doc (Ok to) said merges is = record { doc = doc; to = to; reads = refl; merges = merges; is_said = same_said said (said_plan in_batch net to) (sym is) }
  says_plan doc (Err refused) said merges is = absurd (said_refused said (MergeRefused refused) (sym is))

  says_read : (m : Result Doc Cause) (said : Said) → plan_read in_batch net m ≡ Ok said → LeadsTo in_batch net m said
  says_read (Ok doc) said is = says_plan doc (merge net doc) said refl is
  says_read (Err c) said is = absurd (said_refused said c (sym is))

  refuses_read : (m : Result Doc Cause) (fault : DocFault) → plan_read in_batch net m ≡ refuses (DocRefused fault) → m ≡ errs Doc (DocRefused fault)
  refuses_read (Ok doc) fault is = absurd (no_plan_docs in_batch net (merge net doc) fault is)
  refuses_read (Err own) fault is = ap (errs Doc) (same_cause Said own (DocRefused fault) is)

  breaks_plan : (merged : Result NetData Refused) (refused : Refused) → plan_to in_batch net merged ≡ refuses (MergeRefused refused) → merged ≡ Err refused
  breaks_plan (Ok to) refused is = absurd (said_refused (said_plan in_batch net to) (MergeRefused refused) is)
  breaks_plan (Err broken) refused is = ap broken_by (same_refused broken refused is)
    where
      broken_by : Refused → Result NetData Refused
      broken_by refused = Err refused

      same_refused : (a b : Refused) → refuses (MergeRefused a) ≡ refuses (MergeRefused b) → a ≡ b
      same_refused a b e = cc

  -- a rule is broken by the document, unless nothing was read
  breaks_read : (m : Result Doc Cause) (refused : Refused) → ((c : Cause) → m ≡ errs Doc c → IsRefusal c) → plan_read in_batch net m ≡ refuses (MergeRefused refused)
      → (doc : Doc) × (m ≡ Ok doc) × (merge net doc ≡ Err refused)
  breaks_read (Ok doc) refused only is = (doc, refl, breaks_plan (merge net doc) refused is)
  breaks_read (Err c) refused only is = absurd (subst IsRefusal (same_cause Said c (MergeRefused refused) is) (only c refl))

  calls_read : (m : Result Doc Cause) (n k : ℕ) → ((c : Cause) → m ≡ errs Doc c → IsRefusal c) → plan_read in_batch net m ≡ refuses (CallRefused n k) → ⊥
  calls_read (Ok doc) n k only is = no_plan_calls in_batch net (merge net doc) n k is
  calls_read (Err c) n k only is = subst IsRefusal (same_cause Said c (CallRefused n k) is) (only c refl)

module _ (r : Run) (p : PolicyData) (in_batch : Bool) (nothing : ChangesNothing r.host_tells r.host r.host_after) where
  abbrev plans : NetData → Answer
  plans net = plan_read in_batch net (document_on p net)

  not_calls : (net : NetData) (n k : ℕ) → plans net ≡ refuses (CallRefused n k) → ⊥
  not_calls net n k is = calls_read in_batch net (document_on p net) n k (document_refusal p net) is

  plan_comes : IsLawfulHost r.host_tells r.host → MayWant r → (answer : Answer) → Looked r.host_tells r.honest plans r.host r.host_after answer → Comes r (Ok (planning_policy p in_batch)) answer
  plan_comes lawful want (Ok said) l =
      let v = says_read in_batch l.0 (document_on p l.0) said l.2 in
      record { doc = v.doc; plans = record { from = l.0; to = v.to; dumped = l.1.fresh; merges = v.merges; is_said = v.is_said }; is_ground = ground_plan r l.0 l.1 p in_batch; reads = v.reads }
  plan_comes lawful want (Err (DocRefused fault)) l =
      (record { net = l.0; fresh = l.1.fresh; is_ground = ground_plan r l.0 l.1 p in_batch; refused = refuses_read in_batch l.0 (document_on p l.0) fault l.2 }, same_reads r nothing)
  plan_comes lawful want (Err (MergeRefused refused)) l =
      let b = breaks_read in_batch l.0 (document_on p l.0) refused (document_refusal p l.0) l.2 in (
        λ t. record { doc = b.0; net = l.0; is_doc = record { net = l.0; is_ground = ground_plan r l.0 l.1 p in_batch; reads = b.1 }; dumped = l.1.fresh t; broken = b.2 },
        same_reads r nothing,
      )
  plan_comes lawful want (Err (CallRefused n k)) l = absurd (not_calls l.0 n k l.2)
  plan_comes lawful want (Err (HostFault left.NotBegun)) l = (l, (nothing.state, not_rolled))
  plan_comes lawful want (Err (Damaged area)) l = had_damaged r nothing lawful area l.0 l.1
  plan_comes lawful want (Err OutOfMemory) l = want
  plan_comes lawful want (Err cause) l = absurd l

  plan_may : (answer : Answer) → Looked r.host_tells r.honest plans r.host r.host_after answer → MayAnswer (Ok (planning_policy p in_batch)) answer
  plan_may (Ok said) l = tt
  plan_may (Err (DocRefused fault)) l = document_refused fault p l.0 (refuses_read in_batch l.0 (document_on p l.0) fault l.2)
  plan_may (Err (MergeRefused refused)) l = tt
  plan_may (Err (CallRefused n k)) l = absurd (not_calls l.0 n k l.2)
  plan_may (Err (HostFault left.NotBegun)) l = tt
  plan_may (Err (Damaged area)) l = l.0
  plan_may (Err OutOfMemory) l = tt
  plan_may (Err cause) l = absurd l

  plan_exactly : (answer : Answer) → Looked r.host_tells r.honest plans r.host r.host_after answer → Expects r (Ok (planning_policy p in_batch)) answer → ExactlyOf r (Ok (planning_policy p in_batch)) answer
  plan_exactly (Ok said) l is = (is.answer, is.after)
  plan_exactly (Err (DocRefused fault)) l is = is.answer
  plan_exactly (Err (MergeRefused refused)) l is = is.answer
  plan_exactly (Err (CallRefused n k)) l is = is.answer
  plan_exactly (Err (HostFault left.NotBegun)) l is = is
  plan_exactly (Err (Damaged area)) l is = inr is.answer
  plan_exactly (Err OutOfMemory) l is = is
  plan_exactly (Err cause) l is = absurd l

  -- all that is said of it
  pub plan_policy_answered : (answer : Answer) → Looked r.host_tells r.honest plans r.host r.host_after answer → Ran r (planning_policy p in_batch) answer → Answered r
  plan_policy_answered answer l ran =
      let order = planning_policy p in_batch in
      let want : MayWant r = may_want_order r ran.inputs order ran.is (planning_committing p in_batch) (planning_rolling_back p in_batch) (planning_recovering p in_batch) in
      record {
        order = Ok (planning_policy p in_batch);
        gives = (ran.inputs, ran.may_read, ran.is);
        answer = answer;
        may = plan_may answer l;
        comes = plan_comes ran.goes_on.lawful want answer l;
        counts = nothing.unmade;
        tried = tt;
        told = ran.told;
        goes_on = ran.goes_on;
        exactly = λ honest. plan_exactly answer l (expects r nothing (planning_policy p in_batch) plans refl (ran.goes_on.tells honest) honest answer want l);
        expects = λ a. expects r nothing (planning_policy p in_batch) plans refl (ran.goes_on.tells a.honest) a.honest answer want l;
        leaves = λ a. left_before r nothing;
        reads_as = λ a. reads_before r nothing (ran.goes_on.tells a.honest);
        kept = λ a. kept_stays _ r.host r.host_after a.sound nothing.stops;
        spares = λ a. tt;
        compares = λ a never. absurd never;
        looks = record { state = nothing.state; stops = nothing.stops };
        unbegun = tt;
        waits = tt;
      }

-- ---- what is told of it, with the notes of the document

-- what is answered depends on what is said of this network alone
answers_as : (say other : NetData → Answer) (net : NetData) (answer : Answer) → other net ≡ say net → AnswersOf say net answer → AnswersOf other net answer
answers_as say other net (Ok said) same is = same ∙ is
answers_as say other net (Err (DocRefused fault)) same is = same ∙ is
answers_as say other net (Err (MergeRefused refused)) same is = same ∙ is
answers_as say other net (Err (CallRefused n k)) same is = same ∙ is
answers_as say other net (Err OutOfMemory) same is = tt
answers_as say other net (Err cause) same is = absurd is

pub answers_text : (say : NetData → Answer) (net : NetData) (cause : Cause) → TextOf say net (Err cause) → AnswersOf say net (Err cause)
answers_text say net (DocRefused fault) is = is
answers_text say net (MergeRefused refused) is = is
answers_text say net (CallRefused n k) is = is
answers_text say net OutOfMemory is = tt
answers_text say net cause is = absurd is

-- the line of a cause after the notes
pub read_line : (doc : Doc) (cause : Cause) (notes : Text) → notes ≡ note_lines doc.notes → ReadErr doc cause (notes ++ error_line cause)
read_line doc OutOfMemory notes same = inr (ap (λ (n : Text). n ++ error_line OutOfMemory) same)
read_line doc cause notes same = ap (λ (n : Text). n ++ error_line cause) same

-- of the document that a policy is on the network
module _ (p : PolicyData) (in_batch : Bool) (net : NetData) (doc : Doc) (reads : document_on p net ≡ Ok doc) where
  abbrev planned_from : NetData → Answer
  planned_from from = plan_to in_batch from (merge from doc)

  noted_here : (cause : Cause) (text : Text) → text ≡ note_lines doc.notes ++ error_line cause → NotedOn (λ n. n ≡ net) p cause text
  noted_here cause text is = record { net = net; doc = doc; is_on = refl; reads = reads; is = is }

  plan_err : (answer : Answer) (text : Text) → AnswersOf planned_from net answer → ReadErr doc (cause_of answer) text → PlanErr (λ n. n ≡ net) p (cause_of answer) text
  plan_err (Ok said) text answers is = noted_here Done text is
  plan_err (Err (DocRefused fault)) text answers is = absurd (no_plan_docs in_batch net (merge net doc) fault answers)
  plan_err (Err (MergeRefused refused)) text answers is = noted_here (MergeRefused refused) text is
  plan_err (Err (CallRefused n k)) text answers is = absurd (no_plan_calls in_batch net (merge net doc) n k answers)
  plan_err (Err OutOfMemory) text answers (inl is) = inl is
  plan_err (Err OutOfMemory) text answers (inr is) = inr (noted_here OutOfMemory text is)
  plan_err (Err cause) text answers is = absurd answers

  -- the plan for the policy was told
  pub told_as_policy : (tells : Type 0) (out out_after err err_after : SinkView) (report : Report) → TellsOf tells planned_from (ReadErr doc) net out out_after err err_after report
      → TellsOf tells (λ n. plan_read in_batch n (document_on p n)) (PlanErr (λ n. n ≡ net) p) net out out_after err err_after report
  told_as_policy tells out out_after err err_after report t = record {
    answer = t.answer;
    answers = answers_as planned_from (λ n. plan_read in_batch n (document_on p n)) net t.answer (ap (plan_read in_batch net) reads) t.answers;
    out_text = t.out_text;
    err_text = t.err_text;
    is_out = t.is_out;
    is_err = plan_err t.answer t.err_text t.answers t.is_err;
    spoken = t.spoken;
  }

-- a policy that is refused there has no notes
pub told_refusal : (p : PolicyData) (in_batch : Bool) (net : NetData) (cause : Cause) (tells : Type 0) (out out_after err err_after : SinkView) (report : Report) → Answers itself (document_on p net) (Err cause)
    → Spoken tells cause [] (error_line cause) out out_after err err_after report
    → TellsOf tells (λ n. plan_read in_batch n (document_on p n)) (PlanErr (λ n. n ≡ net) p) net out out_after err err_after report
told_refusal p in_batch net (DocRefused fault) tells out out_after err err_after report is spoken = record {
  answer = Err (DocRefused fault);
  answers = ap (plan_read in_batch net) is;
  out_text = [];
  err_text = error_line (DocRefused fault);
  is_out = refl;
  is_err = refl;
  spoken = spoken;
}
told_refusal p in_batch net OutOfMemory tells out out_after err err_after report is spoken = record {
  answer = Err OutOfMemory;
  answers = tt;
  out_text = [];
  err_text = error_line OutOfMemory;
  is_out = refl;
  is_err = inl refl;
  spoken = spoken;
}
told_refusal p in_batch net (BadLine n) tells out out_after err err_after report is spoken = absurd (document_refusal p net (BadLine n) is)
told_refusal p in_batch net (BatchLine n) tells out out_after err err_after report is spoken = absurd (document_refusal p net (BatchLine n) is)
told_refusal p in_batch net BatchLarge tells out out_after err err_after report is spoken = absurd (document_refusal p net BatchLarge is)
told_refusal p in_batch net cause tells out out_after err err_after report is spoken = absurd is

-- ---- of a run

module _ (r : Run) (p : PolicyData) (in_batch : Bool) where
  abbrev order : Order
  order = planning_policy p in_batch

  -- what is answered of the network that was found
  pub looked_at : (net : NetData) (answer : Answer) → IsFound r.host_tells r.honest r.host r.host_after net → AnswersOf (λ n. plan_read in_batch n (document_on p n)) net answer
      → Looked r.host_tells r.honest (λ n. plan_read in_batch n (document_on p n)) r.host r.host_after answer
  looked_at net (Ok said) found is = (net, found, is)
  looked_at net (Err (DocRefused fault)) found is = (net, found, is)
  looked_at net (Err (MergeRefused refused)) found is = (net, found, is)
  looked_at net (Err (CallRefused n k)) found is = (net, found, is)
  looked_at net (Err OutOfMemory) found is = tt
  looked_at net (Err cause) found is = absurd is

  -- it was told
  pub told_found : (net : NetData) → IsFound r.host_tells r.honest r.host r.host_after net
      → (t : TellsOf r.sinks_tell (λ n. plan_read in_batch n (document_on p n)) (PlanErr (λ n. n ≡ net) p) net r.out r.out_after r.err r.err_after r.report) → Told r (Ok order) t.answer
  told_found net found t = record {
    out = t.out_text;
    err = t.err_text;
    is_out = t.is_out;
    is_err = err_wider (λ n. n ≡ net) (Grounds r (Ok order)) (λ n same. subst (IsGround r order) (sym same) (ground_plan r net found p in_batch)) (TakesFirst r) (TakesFirst r) (λ e. e) (Ok order) (cause_of t.answer) t.err_text t.is_err;
    written = written r t.answer t.out_text t.err_text t.spoken;
  }

  -- no network was found
  pub looked_none : (cause : Cause) → Finds r.host_tells r.honest r.host r.host_after (Err cause) → Looked r.host_tells r.honest (λ n. plan_read in_batch n (document_on p n)) r.host r.host_after (Err cause)
  looked_none (HostFault left.NotBegun) f = f
  looked_none (Damaged area) f = f
  looked_none OutOfMemory f = tt
  looked_none cause f = absurd f

  none_line : (cause : Cause) → Finds r.host_tells r.honest r.host r.host_after (Err cause) → ErrTextOn (TakesFirst r) (Grounds r (Ok order)) (Ok order) cause (error_line cause)
  none_line (HostFault left.NotBegun) f = refl
  none_line (Damaged area) f = refl
  none_line OutOfMemory f = inl refl
  none_line cause f = absurd f

  pub told_none : (cause : Cause) → Finds r.host_tells r.honest r.host r.host_after (Err cause)
      → Spoken r.sinks_tell cause [] (error_line cause) r.out r.out_after r.err r.err_after r.report → Told r (Ok order) (Err cause)
  told_none cause f spoken = told_refused r (Ok order) cause [] (none_line cause f) spoken

-- ---- the text of a value

-- the value is said, or why there is none
pub value_text : (p : PolicyData) (net : NetData) (cause : Cause) → Answers shape (value_on p net) (Err cause) → TextOf (λ n. say_value (value_on p n)) net (Err cause)
value_text p net (DocRefused fault) is = ap say_value is
value_text p net (BadLine n) is = absurd (value_refusal p net (BadLine n) is)
value_text p net (BatchLine n) is = absurd (value_refusal p net (BatchLine n) is)
value_text p net BatchLarge is = absurd (value_refusal p net BatchLarge is)
value_text p net OutOfMemory is = tt
value_text p net cause is = absurd is
