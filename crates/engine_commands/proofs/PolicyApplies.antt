-- All that is said of an apply of a policy which comes to the change of its document, from what the engine promises of the recovery, the
-- dump and the change.
use Rattle.std.proofs.Common.{[], ◌≡◌, ◌⊎◌, ◌≤◌, inl, inr, refl, sym, ap, subst, ◌∙◌, ℕ, ◌++◌, Some, None}
use Rattle.std.specs.Prelude.{◌≢◌, false, Result, Ok, Err, IsErrOf}
use Rattle.net_model.specs.NetData.{NetData}
use Rattle.document_model.specs.declared.Doc.{Doc}
use Rattle.policy_model.specs.Values.{PolicyData}
use Rattle.host_core.specs.Faults.{Rose, RoseTwice}
use Rattle.host_core.specs.HostView.{HostView, NoneRefused, HasNet}
use Rattle.checkpoint_cell.specs.Settled.{Standing, standing, restored_to}
use Rattle.merge_model.specs.MergedNet.{merge}
use Rattle.engine_model.specs.Machine.{Asked, Outcome, asked, apply, recover}
use Rattle.engine_model.specs.Sound.{Fit, Sound}
use Rattle.engine_model.specs.Answers.{IsClear}
use Rattle.engine_model.specs.Stations.{Stands, Entry, Only, Settled, Either, Kept, entry_of, at, left_by}
use Rattle.engine_model.specs.Compared.{WaitsAsBefore, Compared}
use Rattle.engine_model.proofs.lemmas.Comparing.{waits_on, waits_stays, waits_as}
use Rattle.engine_model.specs.Exit.{ApplyExit}
use Rattle.engine_model.specs.Refusals.{NoCallMade, ApplyCounts}
use Rattle.engine_model.specs.Failing.{IsUnbegun, ApplyIdle}
use Rattle.engine_model.specs.Faults.{ApplyAnswers, ApplyExact, ApplySays, MayStandHalf, Tries, FailsTwice, Dumps, Backs, HadDamaged, HasTaken}
use Rattle.engine_model.specs.declared.Left.{Left}
use Rattle.engine_model.specs.declared.Left.TheVariants as sides
use Rattle.engine_model.specs.declared.Applied.{Applied}
use Rattle.engine_model.specs.declared.Recovered.{Recovered}
use Rattle.engine_model.specs.declared.Recovered.TheVariants.{Nothing, Waiting as Waits, Restored}
use Rattle.engine_model.specs.declared.BackFault.{BackFault}
use Rattle.host_core.proofs.lemmas.Counts.{rose_after}
use Rattle.engine_model.specs.declared.ApplyFault.{ApplyFault}
use Rattle.engine_model.specs.declared.ApplyFault.TheVariants.{Pending, MergeRefused, HostFault, KernelRefused, NotVerified, InDoubt, Damaged, HardwareDiffers, OutOfMemory}
use Rattle.engine_model.specs.declared.ApplyOpts.{ApplyOpts}
use Rattle.engine_model.proofs.lemmas.Leading.{alike_is}
use Rattle.engine_core.specs.Calm.{CalmSince, UpToNow}
use Rattle.engine_core.specs.Saying.{DamagedSince}
use Rattle.top_model.specs.Said.{Said, Says, said_applied}
use Rattle.top_model.specs.Orders.{Text, Inputs, Order, document_on, applying_policy, order_of}
use Rattle.top_model.specs.Machine.{told_of, apply_cause, apply_read, apply_on, apply_after, apply_policy, ground_after, machine_of}
use Rattle.top_model.specs.Texts.{error_line, note_lines}
use Rattle.top_model.specs.Runs.{Run, MayRead, HostRose, HostRoseTwice, entry, reads, left_at_exit}
use Rattle.top_model.specs.Grounds.{Grounds, IsGround, IsDocumentOf, TakesFirst}
use Rattle.top_model.specs.Told.{NotedOn, ErrTextOn, Told}
use Rattle.top_model.specs.Causes.{MayWant, Comes, Expects, ExactlyOf, expected}
use Rattle.top_model.specs.Counts.{PolicyCounted}
use Rattle.top_model.specs.Tried.{HasExcuse}
use Rattle.top_model.specs.Exits.{PolicyLeaves, Compares}
use Rattle.top_model.specs.Undisturbed.{Spares}
use Rattle.top_model.specs.Answered.{GoesOn, Answered}
use Rattle.top_model.specs.declared.report.Cause.{Cause}
use Rattle.top_model.specs.declared.report.Cause.TheVariants as cause
use Rattle.top_model.proofs.lemmas.Settles.{same_some}
use Rattle.top_model.proofs.lemmas.Settling.{refused_settles}
use Rattle.top_model.proofs.lemmas.Continued as go
use Rattle.answer_text.specs.Speaking.{Spoken}
use Rattle.answer_text.proofs.lemmas.Told.{written, told_refused}
use Rattle.command_laws.specs.Begun.{side_of, Seen, Wants, told_side, fault_notes}
use Rattle.command_laws.proofs.lemmas.Applies.{answer_of, tried}
use Rattle.command_laws.proofs.lemmas.EndsEarly.{never_clear}
use Rattle.command_laws.proofs.lemmas.PolicySeen.{given, failed, same_given, same_doc, sided, never_pending, seen_faults, seen_moment, seen_quiet, seen_unbegun, seen_taken, seen_none, seen_answer, seen_after, seen_found, seen_kept, seen_left, seen_alone}
use Rattle.command_laws.proofs.lemmas.PolicyAnswers.{Unpending, unpending, Unhurt, unhurt, may, may_want, leaves, unbegun}

module _ (p : PolicyData) (opts : ApplyOpts) (now : ℕ) where
  ground_clear : (e : Standing) (answer : Result Recovered BackFault) (done : Recovered) → answer ≡ Ok done → IsClear done → ground_after e answer ≡ e.net
  ground_clear e answer Nothing is clear = ap (ground_after e) is
  ground_clear e answer (Waits deadline) is clear = absurd clear
  ground_clear e answer Restored is clear = ap (ground_after e) is

  after_clear : (e : Standing) (answer : Result Recovered BackFault) (done : Recovered) → answer ≡ Ok done → IsClear done → apply_after p opts now e answer ≡ apply_on p opts now e e.net
  after_clear e answer Nothing is clear = ap (apply_after p opts now e) is
  after_clear e answer (Waits deadline) is clear = absurd clear
  after_clear e answer Restored is clear = ap (apply_after p opts now e) is

abbrev answers_as : Outcome Applied ApplyFault → Outcome Said Cause
answers_as outcome = told_of said_applied apply_cause outcome

module _ (r : Run) (p : PolicyData) (opts : ApplyOpts) (doc : Doc) (done : Recovered) (between mid : HostView) (goes_on : GoesOn r) (wants : Wants r.host_tells r.honest r.now done r.host between mid p doc) where
  abbrev Ask : Asked
  Ask = asked doc opts r.now

  abbrev order : Order
  order = applying_policy p opts

  abbrev seen : Seen r.host_tells r.honest r.now done r.host between mid wants.net
  seen = wants.seen

  abbrev clear : IsClear done
  clear = seen.begun.clear

  abbrev tells_of : r.honest → r.host_tells
  tells_of = goes_on.tells

  none : r.host_tells → (standing mid.state).cell ≡ None
  none = seen_none r.host_tells r.honest tells_of r.now done r.host between mid wants.net seen

  idle : side_of done ≡ sides.NotBegun → IsUnbegun r.host_tells r.host mid
  idle = seen_unbegun r.host_tells r.honest tells_of r.now done r.host between mid wants.net seen

  same : side_of done ≡ sides.NotBegun → r.host_tells → mid.state ≡ r.host.state
  same is = (idle is).same

  faults : r.host.faults ≤ mid.faults
  faults = seen_faults r.host_tells r.honest tells_of r.now done r.host between mid wants.net seen

  quiet : NoneRefused r.host.kernel mid.kernel
  quiet = seen_quiet r.host_tells r.honest tells_of r.now done r.host between mid wants.net seen

  unmade : side_of done ≡ sides.NotBegun → NoCallMade r.host.kernel mid.kernel
  unmade is = (idle is).unmade

  taken : side_of done ≡ sides.RolledBack → r.host_tells → HasTaken r.now (reads r).cell
  taken = seen_taken r.host_tells r.honest tells_of r.now done r.host between mid wants.net seen

  after : r.honest → standing mid.state ≡ (recover r.now (reads r)).after
  after = seen_after r.host_tells r.honest tells_of r.now done r.host between mid wants.net seen

  settling : r.honest → (recover r.now (reads r)).answer ≡ given done
  settling = seen_answer r.host_tells r.honest tells_of r.now done r.host between mid wants.net seen

  found : r.honest → mid.state.net ≡ Some wants.net
  found = seen_found r.host_tells r.honest tells_of r.now done r.host between mid wants.net seen

  -- the policy is evaluated where the machine evaluates it
  is_ground : IsGround r order wants.net
  is_ground = record {
    dumped = λ never t. absurd never;
    stood = λ h. ground_clear p opts r.now (recover r.now (reads r)).after (recover r.now (reads r)).answer done (settling h) clear ∙ ap (λ (x : Standing). x.net) (sym (after h)) ∙ found h;
  }

  is_document : IsDocumentOf r order p doc
  is_document = record { net = wants.net; is_ground = is_ground; reads = wants.reads }

  -- the apply begins with what the recovery left
  begins : r.honest → apply Ask (reads r) ≡ apply Ask (standing mid.state)
  begins h = go.from_settled Ask (reads r) (standing mid.state) done (settling h) clear (after h) (none (tells_of h))

  machine : r.honest → apply_policy p opts r.now (reads r) ≡ answers_as (apply Ask (reads r))
  machine h = after_clear p opts r.now (recover r.now (reads r)).after (recover r.now (reads r)).answer done (settling h) clear
      ∙ ap (λ (x : Standing). apply_on p opts r.now x x.net) (sym (after h))
      ∙ ap (apply_on p opts r.now (standing mid.state)) (found h)
      ∙ ap (apply_read opts r.now (standing mid.state)) wants.reads
      ∙ ap answers_as (sym (begins h))

  -- ---- how it is told

  noted_on : (c : Cause) (notes : Text) → notes ≡ note_lines doc.notes → NotedOn (Grounds r (Ok order)) p c (notes ++ error_line c)
  noted_on c notes is = record { net = wants.net; doc = doc; is_on = is_ground; reads = wants.reads; is = ap (λ (bytes : Text). bytes ++ error_line c) is }

  -- a change that is done was told after the notes of its document
  pub told_applied : (said : Said) (text notes : Text) → Says said text → notes ≡ note_lines doc.notes
      → Spoken r.sinks_tell cause.Done text (notes ++ error_line cause.Done) r.out r.out_after r.err r.err_after r.report → Told r (Ok order) (Ok said)
  told_applied said text notes says is spoken = record {
    out = text;
    err = notes ++ error_line cause.Done;
    is_out = says;
    is_err = noted_on cause.Done notes is;
    written = written r (Ok said) text (notes ++ error_line cause.Done) spoken;
  }

  fault_err : (fault : ApplyFault) (notes : Text) → notes ≡ note_lines doc.notes → ErrTextOn (TakesFirst r) (Grounds r (Ok order)) (Ok order) (apply_cause fault) (fault_notes fault notes ++ error_line (apply_cause fault))
  fault_err (Pending deadline) notes is = refl
  fault_err (MergeRefused refused) notes is = noted_on (cause.MergeRefused refused) notes is
  fault_err (HostFault sides.NotBegun) notes is = inr (noted_on (cause.HostFault sides.NotBegun) notes is)
  fault_err (HostFault sides.RolledBack) notes is = inr (noted_on (cause.HostFault sides.RolledBack) notes is)
  fault_err (HostFault sides.Pending) notes is = inr (noted_on (cause.HostFault sides.Pending) notes is)
  fault_err (KernelRefused k n sides.NotBegun) notes is = inr (noted_on (cause.KernelRefused k n sides.NotBegun) notes is)
  fault_err (KernelRefused k n sides.RolledBack) notes is = noted_on (cause.KernelRefused k n sides.RolledBack) notes is
  fault_err (KernelRefused k n sides.Pending) notes is = inr (noted_on (cause.KernelRefused k n sides.Pending) notes is)
  fault_err (NotVerified found left) notes is = noted_on (cause.NotVerified found left) notes is
  fault_err InDoubt notes is = noted_on cause.InDoubt notes is
  fault_err (Damaged area) notes is = inr (noted_on (cause.Damaged area) notes is)
  fault_err (HardwareDiffers names) notes is = inr (noted_on (cause.HardwareDiffers names) notes is)
  fault_err OutOfMemory notes is = inr (noted_on cause.OutOfMemory notes is)

  -- so was a fault, but for a change that waits
  told_fault : (fault : ApplyFault) (notes : Text) → notes ≡ note_lines doc.notes
      → Spoken r.sinks_tell (apply_cause (told_side done fault)) [] (fault_notes (told_side done fault) notes ++ error_line (apply_cause (told_side done fault))) r.out r.out_after r.err r.err_after r.report
      → Told r (Ok order) (answer_of (go.told_as (side_of done) (failed fault)))
  told_fault fault notes is spoken = subst (λ (x : Result Applied ApplyFault). Told r (Ok order) (answer_of x)) (sym (sided done fault))
      (told_refused r (Ok order) (apply_cause (told_side done fault)) (fault_notes (told_side done fault) notes) (fault_err (told_side done fault) notes is) spoken)

  pub told_fault_as : (fault named : ApplyFault) (notes : Text) → named ≡ told_side done fault → notes ≡ note_lines doc.notes
      → Spoken r.sinks_tell (apply_cause named) [] (fault_notes named notes ++ error_line (apply_cause named)) r.out r.out_after r.err r.err_after r.report
      → Told r (Ok order) (answer_of (go.told_as (side_of done) (failed fault)))
  told_fault_as fault named notes same is spoken =
      told_fault fault notes is (subst (λ (x : ApplyFault). Spoken r.sinks_tell (apply_cause x) [] (fault_notes x notes ++ error_line (apply_cause x)) r.out r.out_after r.err r.err_after r.report) same spoken)

  -- ---- when it comes

  comes : (result : Result Applied ApplyFault) → ApplySays r.host_tells Ask r.host r.host_after result → (r.honest → ApplyExact (HostRose r) (apply Ask (reads r)) r.host_after result)
      → Unpending r.host_tells result → MayWant r → Comes r (Ok order) (answer_of result)
  comes (Ok done) says exact never wanted = λ t verifies. (doc, is_document, says t verifies)
  comes (Err (Pending deadline)) says exact never wanted = (λ t. absurd (never t), λ t. absurd (never t))
  comes (Err (MergeRefused refused)) says exact never wanted = (
    λ t. let s = says.1 t in record { doc = doc; net = s.from; is_doc = is_document; dumped = s.is_fresh; broken = s.breaks },
    record {
      calls = says.0;
      none = λ t. (says.1 t).none;
      stands = λ honest. let is = exact honest in refused_settles Ask refused (reads r) is.answer ∙ ap (λ (x : Standing). Some x) (sym is.after);
    },
  )
  comes (Err (HostFault side)) says exact never wanted = (says.0, says.1)
  comes (Err (KernelRefused k n side)) says exact never wanted = (says.0, says.1, says.3)
  comes (Err (NotVerified found side)) says exact never wanted = (says.0, says.1, says.2, λ t. let s = says.4 t in record { doc = doc; saved = s.saved; is_doc = is_document; is_saved = s.is_saved; other = s.other })
  comes (Err InDoubt) says exact never wanted = (says.0, says.1, λ t verifies. (doc, is_document, says.2 t verifies))
  comes (Err (Damaged area)) says exact never wanted = says
  comes (Err (HardwareDiffers names)) says exact never wanted = says
  comes (Err OutOfMemory) says exact never wanted = wanted

  module _ (h : r.honest) where
    answers_so : (result : Result Applied ApplyFault) → (apply Ask (reads r)).answer ≡ result → expected r (Ok order) ≡ answer_of result
    answers_so result is = ap (λ (o : Outcome Said Cause). o.answer) (machine h) ∙ ap answer_of is

    leads : (machine_of r.now (Ok order) (reads r)).after ≡ (apply Ask (reads r)).after
    leads = ap (λ (o : Outcome Said Cause). o.after) (machine h)

    exactly : (result : Result Applied ApplyFault) → ApplyExact (HostRose r) (apply Ask (reads r)) r.host_after result → MayWant r → ExactlyOf r (Ok order) (answer_of result)
    exactly (Ok done) is wanted = (answers_so (Ok done) is.answer, is.after ∙ sym leads)
    exactly (Err (Pending deadline)) is wanted = answers_so (Err (Pending deadline)) is.answer
    exactly (Err (MergeRefused refused)) is wanted = answers_so (Err (MergeRefused refused)) is.answer
    exactly (Err (HostFault side)) is wanted = is
    exactly (Err InDoubt) is wanted = (is.0, (said_applied is.1.done, answers_so (Ok is.1.done) is.1.answer, subst (λ (x : Standing). HasNet x.net r.host_after) (sym leads) is.1.net))
    exactly (Err (KernelRefused k n side)) is wanted = is
    exactly (Err (NotVerified found side)) is wanted = is
    exactly (Err (Damaged area)) (inl rose) wanted = inl rose
    exactly (Err (Damaged area)) (inr is) wanted = inr (answers_so (Err (Damaged area)) is.answer)
    exactly (Err (HardwareDiffers names)) (inl rose) wanted = inl rose
    exactly (Err (HardwareDiffers names)) (inr is) wanted = inr (answers_so (Err (HardwareDiffers names)) is.answer)
    exactly (Err OutOfMemory) is wanted = wanted

    expects : (result : Result Applied ApplyFault) → ApplyAnswers Ask r.host r.host_after result → MayWant r → Expects r (Ok order) (answer_of result)
    expects (Ok done) is wanted = record { answer = answers_so (Ok done) is.answer; after = is.after ∙ sym leads }
    expects (Err (Pending deadline)) is wanted = record { answer = answers_so (Err (Pending deadline)) is.answer; after = is.after ∙ sym leads }
    expects (Err (MergeRefused refused)) is wanted = record { answer = answers_so (Err (MergeRefused refused)) is.answer; after = is.after ∙ sym leads }
    expects (Err (HostFault side)) is wanted = is
    expects (Err (KernelRefused k n side)) is wanted = absurd is
    expects (Err (NotVerified found side)) is wanted = absurd is
    expects (Err InDoubt) is wanted = is
    expects (Err (Damaged area)) is wanted = record { answer = answers_so (Err (Damaged area)) is.answer; after = is.after ∙ sym leads }
    expects (Err (HardwareDiffers names)) is wanted = record { answer = answers_so (Err (HardwareDiffers names)) is.answer; after = is.after ∙ sym leads }
    expects (Err OutOfMemory) is wanted = wanted

    policy_leaves : (entry : Entry) (reads_so : entry.reads ≡ reads r) (left : Stands) (rose twice : Type 0) (result : Result Applied ApplyFault) → ApplyExit Ask entry left rose twice result
        → PolicyLeaves opts r.now (apply_policy p opts r.now entry.reads).after entry left rose twice (answer_of result)
    policy_leaves entry reads_so left rose twice result exit =
        let is : (apply Ask entry.reads).after ≡ (apply_policy p opts r.now entry.reads).after =
        ap (λ (x : Standing). (apply Ask x).after) reads_so ∙ sym leads ∙ ap (λ (x : Standing). (apply_policy p opts r.now x).after) (sym reads_so) in
        subst (λ (x : Standing). PolicyLeaves opts r.now x entry left rose twice (answer_of result)) is (leaves Ask entry left rose twice result exit)

    abbrev Reached : Stands
    Reached = Either (Settled r.now (entry r)) (Only (machine_of r.now (Ok order) (reads r)).after)

    policy_kept : Kept (Either (Settled r.now (entry r)) (Only (apply Ask (reads r)).after)) r.host r.host_after → Kept Reached r.host r.host_after
    policy_kept kept = subst (λ (x : Standing). Kept (Either (Settled r.now (entry r)) (Only x)) r.host r.host_after) (sym leads) kept

  -- ---- all of it, from the change

  module _ (result : Result Applied ApplyFault)
      (says : ApplySays r.host_tells Ask mid r.host_after result) (counts : ApplyCounts mid.kernel r.host_after.kernel result) (last : ApplyIdle r.host_tells r.now mid r.host_after result)
      (tries : Tries (MayStandHalf r.host_tells Ask mid) mid.faults mid.kernel.refusals r.host_after result)
      (twice : r.honest → FailsTwice (HasTaken r.now (standing mid.state).cell) mid.faults r.host_after result)
      (dumps : Dumps r.host_tells opts.no_verify r.host_after result)
      (backs : r.honest → Backs (recover r.now (standing mid.state)).after.net r.host_after result)
      (exact : r.honest → ApplyExact (Rose mid.faults r.host_after.faults) (apply Ask (standing mid.state)) r.host_after result)
      (answers : r.honest → Sound mid → ApplyAnswers Ask mid r.host_after result)
      (exits : r.honest → Sound mid → ApplyExit Ask (entry_of mid) (left_at_exit r) (Rose mid.faults r.host_after.faults) (RoseTwice mid.faults r.host_after.faults) result)
      (read_exits : r.honest → Sound mid → ApplyExit Ask (at (standing mid.state)) (Only (standing r.host_after.state)) (Rose mid.faults r.host_after.faults) (RoseTwice mid.faults r.host_after.faults) result)
      (kept : r.honest → Sound mid → Kept (Either (Settled r.now (entry_of mid)) (Only (apply Ask (standing mid.state)).after)) mid r.host_after)
      (looked : r.honest → Sound mid → Compared Ask mid r.host_after)
      (calm : r.honest → Sound mid → (from to : NetData) → standing mid.state ≡ restored_to from → merge from doc ≡ Ok to → (Rose mid.faults r.host_after.faults → ⊥) → result ≢ Err OutOfMemory
      → (since : ℕ) → since ≤ mid.stops.moment → CalmSince from to since mid → CalmSince from to since r.host_after)
      (damaged : r.host_tells → UpToNow mid (λ since. (area : ℕ) → IsErrOf result (Damaged area) → DamagedSince since area r.host_after)) where
    abbrev back : Left
    back = side_of done

    abbrev told_result : Result Applied ApplyFault
    told_result = go.told_as back result

    moment : r.host.stops.moment ≤ mid.stops.moment
    moment = seen_moment r.host_tells r.honest tells_of r.now done r.host between mid wants.net seen

    had_damaged : (area : ℕ) → result ≡ Err (Damaged area) → r.host_tells → HadDamaged area r.host r.host_after
    had_damaged area is t =
        let d = damaged t r.host.stops.moment moment area (subst (λ (x : Result Applied ApplyFault). IsErrOf x (Damaged area)) (sym is) refl) in
        record { pair = d.pair; left = d.left; damaged = d.damaged }

    says_all : ApplySays r.host_tells Ask r.host r.host_after told_result
    says_all = go.says r.host_tells Ask back r.host mid r.host_after (never_pending done) faults quiet none same unmade taken result says had_damaged

    never_waits : Unpending r.host_tells told_result
    never_waits = unpending r.host_tells Ask back mid r.host_after none result says

    -- after the recovery and the dump a network alone stands, on an honest host
    unhurt_all : r.honest → (HostRose r → ⊥) → Unhurt result
    unhurt_all h calm = unhurt Ask wants.net (standing mid.state) (Rose mid.faults r.host_after.faults) r.host_after (λ i. record { net = found h i; cell = none (tells_of h) i })
        (λ risen. calm (rose_after r.host.faults mid.faults r.host_after.faults faults risen)) result (exact h)

    counts_all : PolicyCounted r.host_tells r.host.kernel r.host_after.kernel (answer_of told_result)
    counts_all = go.counts r.host_tells Ask back r.host mid r.host_after (never_pending done) faults quiet none same unmade taken result says counts

    exact_all : r.honest → ApplyExact (HostRose r) (apply Ask (reads r)) r.host_after told_result
    exact_all h = go.exact r.host_tells Ask back r.host mid r.host_after (never_pending done) faults quiet none same (after h) (none (tells_of h)) (begins h) result (exact h)

    stays_unbegun : r.honest → result ≡ Err (HostFault sides.NotBegun) → r.host_after.state ≡ mid.state
    stays_unbegun h is = (subst (λ (x : Result Applied ApplyFault). ApplySays r.host_tells Ask mid r.host_after x) is says).1 (tells_of h)

    backs_all : r.honest → Backs (recover r.now (reads r)).after.net r.host_after told_result
    backs_all h = go.backs r.host_tells Ask back r.host mid r.host_after (never_pending done) faults quiet none same (after h) (none (tells_of h)) result (backs h) (stays_unbegun h)

    tries_all : Tries (HasExcuse r opts) r.host.faults r.host.kernel.refusals r.host_after told_result
    tries_all = go.tries r.host_tells Ask back r.host mid r.host_after (never_pending done) faults quiet none same (HasTaken r.now (reads r).cell) (opts.no_verify ≡ false) result tries

    twice_all : r.honest → FailsTwice (HasTaken r.now (reads r).cell) r.host.faults r.host_after told_result
    twice_all h = go.fails_twice r.host_tells Ask back r.host mid r.host_after (never_pending done) faults quiet none same (after h) (none (tells_of h)) (HasTaken r.now (reads r).cell) result (twice h)

    dumps_all : Dumps r.host_tells opts.no_verify r.host_after told_result
    dumps_all = go.dumps r.host_tells Ask back r.host mid r.host_after (never_pending done) faults quiet none same opts.no_verify result dumps

    module _ (h : r.honest) (sound : Sound r.host) where
      kept_mid : Kept (Only (recover r.now (reads r)).after) r.host mid
      kept_mid = seen_kept r.host_tells r.honest tells_of r.now done r.host between mid wants.net seen h sound

      fit : Fit r.host.state
      fit = sound.fit r.host.state (goes_on.lawful.reads (tells_of h))

      answers_all : ApplyAnswers Ask r.host r.host_after told_result
      answers_all = go.answers r.host_tells Ask back r.host mid r.host_after (never_pending done) faults quiet none same (after h) (none (tells_of h)) (begins h) result (answers h kept_mid.sound)

      kept_all : Kept (Either (Settled r.now (entry r)) (Only (apply Ask (reads r)).after)) r.host r.host_after
      kept_all = go.kept r.host_tells Ask back r.host mid r.host_after (never_pending done) faults quiet none same (after h) (none (tells_of h)) (begins h) fit kept_mid (kept h kept_mid.sound)

      unrestored : (back ≡ sides.NotBegun) ⊎ ((saved : NetData) × (standing mid.state ≡ restored_to saved))
      unrestored = inr (wants.net, seen_alone r.host_tells r.honest tells_of r.now done r.host between mid wants.net seen h)

      exits_all : ApplyExit Ask (entry r) (left_at_exit r) (HostRose r) (HostRoseTwice r) told_result
      exits_all = go.exits r.host_tells Ask back r.host mid r.host_after (never_pending done) faults quiet none same (after h) (none (tells_of h)) (begins h) fit
          (entry r) (entry_of mid) refl refl (r.host.state, goes_on.lawful.reads (tells_of h), refl) (seen_left r.host_tells r.honest tells_of r.now done r.host between mid wants.net seen h sound)
          (left_at_exit r) unrestored (λ is. same is (tells_of h)) result (answers h kept_mid.sound) (exits h kept_mid.sound)

      read_exits_all : ApplyExit Ask (at (reads r)) (Only (standing r.host_after.state)) (HostRose r) (HostRoseTwice r) told_result
      read_exits_all = go.exits r.host_tells Ask back r.host mid r.host_after (never_pending done) faults quiet none same (after h) (none (tells_of h)) (begins h) fit
          (at (reads r)) (at (standing mid.state)) refl refl refl (λ x is. record { station = standing mid.state; is = refl; like = alike_is (standing mid.state) x (sym is) })
          (Only (standing r.host_after.state)) unrestored (λ is. same is (tells_of h)) result (answers h kept_mid.sound) (read_exits h kept_mid.sound)

      -- a change that waits could be left at the entry, or was compared
      compares : Compares r (Ok order)
      compares verifies s left waits =
          let first : WaitsAsBefore r.host mid = waits_on r.host between mid (seen.begun.recovers.waits (tells_of h)) (waits_stays between mid seen.looks.stops) in
          elim (looked h kept_mid.sound verifies s left waits) as (λ v. left_by r.host (standing s) ⊎ (r.host_after.fresh ≡ (machine_of r.now (Ok order) (reads r)).after.net)) [
            | inl was ↦ let before = first was.0 was.1 (waits_as was.0 s was.2 waits) in inl (before.0, before.1, before.2 ∙ was.2)
            | inr fresh ↦ inr (fresh ∙ ap (λ (o : Outcome Applied ApplyFault). o.after.net) (sym (begins h)) ∙ ap (λ (x : Standing). x.net) (sym (leads h)))
          ]

      spares : Spares r (Ok order) (answer_of told_result)
      spares other from to stood has merges no_fault no_memory =
          let nothing : (recover r.now (reads r)).answer ≡ given Nothing = ap (λ (x : Standing). (recover r.now x).answer) stood in
          let begun : side_of done ≡ sides.NotBegun = ap side_of (same_given done Nothing (sym (settling h) ∙ nothing)) in
          let stands : standing mid.state ≡ restored_to from = ap standing (same begun (tells_of h)) ∙ stood in
          let net_is : wants.net ≡ from = same_some wants.net from (sym (found h) ∙ ap (λ (x : Standing). x.net) stands) in
          let doc_is : doc ≡ other = same_doc doc other (sym wants.reads ∙ ap (document_on p) net_is ∙ has) in
          (calm h kept_mid.sound from to stands (ap (merge from) doc_is ∙ merges) (λ rose. no_fault (rose_after r.host.faults mid.faults r.host_after.faults faults rose))
          (λ memory. no_memory (ap (λ (x : Result Applied ApplyFault). answer_of (go.told_as back x)) memory))
          r.host.stops.moment moment (record { pair = go.first_spared from to r.host mid goes_on.lawful.stops (goes_on.lawful.reads (tells_of h)) sound stood (idle begun).stops })).pair

    pub answered : (inputs : Inputs) → MayRead r inputs → order_of r.in_script inputs r.words ≡ Ok order → Told r (Ok order) (answer_of told_result) → Answered r
    answered inputs may_read is told =
        let wanted : MayWant r = may_want r p opts inputs is in
        record {
          order = Ok order;
          gives = (inputs, may_read, is);
          answer = answer_of told_result;
          may = may p opts told_result;
          comes = comes told_result says_all exact_all never_waits wanted;
          counts = counts_all;
          tried = tried r doc opts told_result says_all tries_all twice_all dumps_all backs_all;
          exactly = λ honest. exactly honest told_result (exact_all honest) wanted;
          told = told;
          goes_on = goes_on;
          expects = λ a. expects a.honest told_result (answers_all a.honest a.sound) wanted;
          leaves = λ a. policy_leaves a.honest (entry r) refl (left_at_exit r) (HostRose r) (HostRoseTwice r) told_result (exits_all a.honest a.sound);
          reads_as = λ a. policy_leaves a.honest (at (reads r)) refl (Only (standing r.host_after.state)) (HostRose r) (HostRoseTwice r) told_result (read_exits_all a.honest a.sound);
          kept = λ a. policy_kept a.honest (kept_all a.honest a.sound);
          spares = λ a. spares a.honest a.sound;
          compares = λ a. compares a.honest a.sound;
          looks = tt;
          unbegun = unbegun r p opts back mid (never_pending done) none idle taken result last never_waits unhurt_all;
          waits = λ t waiting. absurd (never_clear r.host_tells r.honest r.now r.host between done clear seen.begun.recovers t waiting.0 waiting.1);
        }
