-- All that is said of an apply, from what the engine promises of it.
use Rattle.std.proofs.Common.{◌≡◌, inl, inr, refl, sym, ap, ◌∙◌}
use Rattle.std.specs.Prelude.{◌≢◌, Some, Result, Ok, Err}
use Rattle.net_model.specs.NetData.{NetData}
use Rattle.document_model.specs.declared.Doc.{Doc}
use Rattle.host_core.specs.HostView.{State}
use Rattle.plan_model.specs.Undisturbed.{IsUndisturbed}
use Rattle.checkpoint_cell.specs.Settled.{Standing, standing, restored_to}
use Rattle.merge_model.specs.MergedNet.{merge}
use Rattle.engine_model.specs.Machine.{Asked, asked, apply, recover}
use Rattle.engine_model.specs.Sound.{Sound}
use Rattle.engine_model.specs.Stations.{Stands, Entry, Only, Settled, Either, Kept, at}
use Rattle.engine_model.specs.Compared.{Compared}
use Rattle.engine_model.specs.Exit.{ApplyExit}
use Rattle.engine_model.specs.Refusals.{ApplyCounts}
use Rattle.engine_model.specs.Failing.{ApplyIdle, ApplyIntact, ApplyWaits}
use Rattle.engine_model.specs.Faults.{ApplyAnswers, ApplyExact, ApplySays, Tries, FailsTwice, Dumps, Backs, HasTaken}
use Rattle.engine_model.specs.declared.Left.TheVariants as sides
use Rattle.engine_model.specs.declared.Applied.{Applied}
use Rattle.engine_model.specs.declared.ApplyFault.{ApplyFault}
use Rattle.engine_model.specs.declared.ApplyFault.TheVariants.{Pending, MergeRefused, HostFault, KernelRefused, NotVerified, InDoubt, Damaged, HardwareDiffers, OutOfMemory}
use Rattle.engine_model.specs.declared.ApplyOpts.{ApplyOpts}
use Rattle.top_model.specs.Said.{said_applied}
use Rattle.top_model.specs.Orders.{Inputs, applying, committing, rolling_back, recovering, order_of}
use Rattle.top_model.specs.Machine.{told, apply_cause}
use Rattle.top_model.specs.Runs.{Run, MayRead, HostRose, HostRoseTwice, entry, reads, left_at_exit}
use Rattle.top_model.specs.Told.{Answer, Told}
use Rattle.top_model.specs.Causes.{MayWant, MayAnswer, Comes, Expects, ExactlyOf}
use Rattle.top_model.specs.Tried.{HasExcuse, ApplyTried}
use Rattle.top_model.specs.Exits.{ApplyLeaves}
use Rattle.top_model.specs.Answered.{GoesOn, Unbegun, Answered}
use Rattle.top_model.proofs.lemmas.Unbegun.{unchanged, unchanged_or_taken}
use Rattle.top_model.proofs.lemmas.Counting.{apply_counted}
use Rattle.top_model.proofs.lemmas.Settling.{refused_settles, pending_stays}
use Rattle.top_model.proofs.lemmas.Wanting.{may_want_order}

abbrev pub answer_of : Result Applied ApplyFault → Answer
answer_of result = told said_applied apply_cause result

leaves : (a : Asked) (entry : Entry) (left : Stands) (rose twice : Type 0) (result : Result Applied ApplyFault) → ApplyExit a entry left rose twice result
    → ApplyLeaves a entry left rose twice (answer_of result)
leaves a entry left rose twice (Ok done) exit = exit
leaves a entry left rose twice (Err (Pending deadline)) exit = exit
leaves a entry left rose twice (Err (MergeRefused refused)) exit = exit
leaves a entry left rose twice (Err (HostFault sides.NotBegun)) exit = exit
leaves a entry left rose twice (Err (HostFault sides.RolledBack)) exit = exit
leaves a entry left rose twice (Err (HostFault sides.Pending)) exit = exit
leaves a entry left rose twice (Err (KernelRefused k n side)) exit = absurd exit
leaves a entry left rose twice (Err (NotVerified found side)) exit = absurd exit
leaves a entry left rose twice (Err InDoubt) exit = exit
leaves a entry left rose twice (Err (Damaged area)) exit = exit
leaves a entry left rose twice (Err (HardwareDiffers names)) exit = absurd exit
leaves a entry left rose twice (Err OutOfMemory) exit = inr exit

may : (doc : Doc) (opts : ApplyOpts) (result : Result Applied ApplyFault) → MayAnswer (Ok (applying doc opts)) (answer_of result)
may doc opts (Ok done) = tt
may doc opts (Err (Pending deadline)) = tt
may doc opts (Err (MergeRefused refused)) = tt
may doc opts (Err (HostFault side)) = tt
may doc opts (Err (KernelRefused k n side)) = tt
may doc opts (Err (NotVerified found side)) = tt
may doc opts (Err InDoubt) = tt
may doc opts (Err (Damaged area)) = tt
may doc opts (Err (HardwareDiffers names)) = tt
may doc opts (Err OutOfMemory) = tt

-- another order than those of the three single words
other_commit : (doc : Doc) (opts : ApplyOpts) → applying doc opts ≢ committing
other_commit doc opts e = cc

other_rollback : (doc : Doc) (opts : ApplyOpts) → applying doc opts ≢ rolling_back
other_rollback doc opts e = cc

other_recover : (doc : Doc) (opts : ApplyOpts) → applying doc opts ≢ recovering
other_recover doc opts e = cc

-- memory may run out in an apply
pub may_want : (r : Run) (doc : Doc) (opts : ApplyOpts) (inputs : Inputs) → order_of r.in_script inputs r.words ≡ Ok (applying doc opts) → MayWant r
may_want r doc opts inputs is = may_want_order r inputs (applying doc opts) is (other_commit doc opts) (other_rollback doc opts) (other_recover doc opts)

-- whether a restoring was tried, what was dumped, and by what calls the saved network was given, of an apply of a document or of a policy
module _ (r : Run) (doc : Doc) (opts : ApplyOpts) where
  pub tried : (result : Result Applied ApplyFault) → ApplySays r.host_tells (asked doc opts r.now) r.host r.host_after result → Tries (HasExcuse r opts) r.host.faults r.host.kernel.refusals r.host_after result
      → (r.honest → FailsTwice (HasTaken r.now (reads r).cell) r.host.faults r.host_after result) → Dumps r.host_tells opts.no_verify r.host_after result
      → (r.honest → Backs (recover r.now (reads r)).after.net r.host_after result) → ApplyTried r opts (answer_of result)
  tried (Ok done) says tries twice dumps backs = record { verified = dumps.0; skipped = dumps.1 }
  tried (Err (Pending deadline)) says tries twice dumps backs = tt
  tried (Err (MergeRefused refused)) says tries twice dumps backs = tt
  tried (Err (HostFault sides.NotBegun)) says tries twice dumps backs = tt
  tried (Err (HostFault sides.RolledBack)) says tries twice dumps backs = record { gave = says.2 refl; net = backs }
  tried (Err (HostFault sides.Pending)) says tries twice dumps backs = record { tried = tries; twice = twice }
  tried (Err (KernelRefused k n sides.NotBegun)) says tries twice dumps backs = tt
  tried (Err (KernelRefused k n sides.RolledBack)) says tries twice dumps backs = says.2 refl
  tried (Err (KernelRefused k n sides.Pending)) says tries twice dumps backs = tries
  tried (Err (NotVerified found side)) says tries twice dumps backs = says.3
  tried (Err InDoubt) says tries twice dumps backs = dumps
  tried (Err (Damaged area)) says tries twice dumps backs = tt
  tried (Err (HardwareDiffers names)) says tries twice dumps backs = tt
  tried (Err OutOfMemory) says tries twice dumps backs = says

module _ (r : Run) (doc : Doc) (opts : ApplyOpts) where
  abbrev Ask : Asked
  Ask = asked doc opts r.now

  comes : (result : Result Applied ApplyFault) → ApplySays r.host_tells Ask r.host r.host_after result → (r.honest → ApplyExact (HostRose r) (apply Ask (reads r)) r.host_after result) → MayWant r → Comes r (Ok (applying doc opts)) (answer_of result)
  comes (Ok done) says exact wants = says
  comes (Err (Pending deadline)) says exact wants = (λ t. ap answer_of (says t).answer, λ t. (says t).after ∙ pending_stays Ask deadline (reads r) (says t).answer)
  comes (Err (MergeRefused refused)) says exact wants = (
    λ t. let s = says.1 t in record { doc = doc; net = s.from; is_doc = refl; dumped = s.is_fresh; broken = s.breaks },
    record {
      calls = says.0;
      none = λ t. (says.1 t).none;
      stands = λ honest. let is = exact honest in refused_settles Ask refused (reads r) is.answer ∙ ap (λ (x : Standing). Some x) (sym is.after);
    },
  )
  comes (Err (HostFault side)) says exact wants = (says.0, says.1)
  comes (Err (KernelRefused k n side)) says exact wants = (says.0, says.1, says.3)
  comes (Err (NotVerified found side)) says exact wants = (says.0, says.1, says.2, λ t. let s = says.4 t in record { doc = doc; saved = s.saved; is_doc = refl; is_saved = s.is_saved; other = s.other })
  comes (Err InDoubt) says exact wants = says
  comes (Err (Damaged area)) says exact wants = says
  comes (Err (HardwareDiffers names)) says exact wants = says
  comes (Err OutOfMemory) says exact wants = wants

  exactly : (result : Result Applied ApplyFault) → ApplyExact (HostRose r) (apply Ask (reads r)) r.host_after result → MayWant r → ExactlyOf r (Ok (applying doc opts)) (answer_of result)
  exactly (Ok done) is wants = (ap answer_of is.answer, is.after)
  exactly (Err (Pending deadline)) is wants = ap answer_of is.answer
  exactly (Err (MergeRefused refused)) is wants = ap answer_of is.answer
  exactly (Err (HostFault side)) is wants = is
  exactly (Err InDoubt) is wants = (is.0, (said_applied is.1.done, ap answer_of is.1.answer, is.1.net))
  exactly (Err (KernelRefused k n side)) is wants = is
  exactly (Err (NotVerified found side)) is wants = is
  exactly (Err (Damaged area)) (inl rose) wants = inl rose
  exactly (Err (Damaged area)) (inr is) wants = inr (ap answer_of is.answer)
  exactly (Err (HardwareDiffers names)) (inl rose) wants = inl rose
  exactly (Err (HardwareDiffers names)) (inr is) wants = inr (ap answer_of is.answer)
  exactly (Err OutOfMemory) is wants = wants

  expects : (result : Result Applied ApplyFault) → ApplyAnswers Ask r.host r.host_after result → MayWant r → Expects r (Ok (applying doc opts)) (answer_of result)
  expects (Ok done) is wants = record { answer = ap answer_of is.answer; after = is.after }
  expects (Err (Pending deadline)) is wants = record { answer = ap answer_of is.answer; after = is.after }
  expects (Err (MergeRefused refused)) is wants = record { answer = ap answer_of is.answer; after = is.after }
  expects (Err (HostFault side)) is wants = is
  expects (Err (KernelRefused k n side)) is wants = absurd is
  expects (Err (NotVerified found side)) is wants = absurd is
  expects (Err InDoubt) is wants = is
  expects (Err (Damaged area)) is wants = record { answer = ap answer_of is.answer; after = is.after }
  expects (Err (HardwareDiffers names)) is wants = record { answer = ap answer_of is.answer; after = is.after }
  expects (Err OutOfMemory) is wants = wants

  -- what it leaves where it began nothing
  unbegun : (result : Result Applied ApplyFault) → ApplyIdle r.host_tells r.now r.host r.host_after result → (r.honest → (HostRose r → ⊥) → ApplyIntact r.host_tells r.host r.host_after result)
      → Unbegun r (Ok (applying doc opts)) (answer_of result)
  unbegun (Ok done) idle intact = tt
  unbegun (Err (Pending deadline)) idle intact = unchanged r idle
  unbegun (Err (MergeRefused refused)) idle intact = unchanged_or_taken r idle
  unbegun (Err (HostFault sides.NotBegun)) idle intact = unchanged r idle
  unbegun (Err (HostFault sides.RolledBack)) idle intact = tt
  unbegun (Err (HostFault sides.Pending)) idle intact = tt
  unbegun (Err (KernelRefused k n side)) idle intact = tt
  unbegun (Err (NotVerified found side)) idle intact = tt
  unbegun (Err InDoubt) idle intact = tt
  unbegun (Err (Damaged area)) idle intact = λ honest calm. unchanged r (intact honest calm)
  unbegun (Err (HardwareDiffers names)) idle intact = λ honest calm. unchanged r (intact honest calm)
  unbegun (Err OutOfMemory) idle intact = tt

  module _ (inputs : Inputs) (may_read : MayRead r inputs) (is : order_of r.in_script inputs r.words ≡ Ok (applying doc opts)) (result : Result Applied ApplyFault)
      (says : ApplySays r.host_tells Ask r.host r.host_after result) (counts : ApplyCounts r.host.kernel r.host_after.kernel result)
      (idle : ApplyIdle r.host_tells r.now r.host r.host_after result)
      (waits : ApplyWaits r.host_tells r.now r.host r.host_after)
      (intact : r.honest → (HostRose r → ⊥) → ApplyIntact r.host_tells r.host r.host_after result)
      (tries : Tries (HasExcuse r opts) r.host.faults r.host.kernel.refusals r.host_after result)
      (twice : r.honest → FailsTwice (HasTaken r.now (reads r).cell) r.host.faults r.host_after result) (dumps : Dumps r.host_tells opts.no_verify r.host_after result)
      (backs : r.honest → Backs (recover r.now (reads r)).after.net r.host_after result)
      (exact : r.honest → ApplyExact (HostRose r) (apply Ask (reads r)) r.host_after result)
      (answers : r.honest → Sound r.host → ApplyAnswers Ask r.host r.host_after result)
      (exits : r.honest → Sound r.host → ApplyExit Ask (entry r) (left_at_exit r) (HostRose r) (HostRoseTwice r) result)
      (read_exits : r.honest → Sound r.host → ApplyExit Ask (at (reads r)) (Only (standing r.host_after.state)) (HostRose r) (HostRoseTwice r) result)
      (kept : r.honest → Sound r.host → Kept (Either (Settled r.now (entry r)) (Only (apply Ask (reads r)).after)) r.host r.host_after)
      (seen : r.honest → Sound r.host → Compared Ask r.host r.host_after)
      (undisturbed : r.honest → Sound r.host → (from to : NetData) → reads r ≡ restored_to from → merge from doc ≡ Ok to → (HostRose r → ⊥) → result ≢ Err OutOfMemory
      → (s : State) → r.host_after.stops.left_since r.host.stops.moment s → (net : NetData) × (s.net ≡ Some net) × IsUndisturbed from to net) where
    wants : MayWant r
    wants = may_want r doc opts inputs is

    pub answered : GoesOn r → Told r (Ok (applying doc opts)) (answer_of result) → Answered r
    answered goes_on told = record {
      order = Ok (applying doc opts);
      gives = (inputs, may_read, is);
      answer = answer_of result;
      may = may doc opts result;
      comes = comes result says exact wants;
      counts = apply_counted r.host.kernel r.host_after.kernel result counts;
      tried = tried r doc opts result says tries twice dumps backs;
      exactly = λ honest. exactly result (exact honest) wants;
      told = told;
      goes_on = goes_on;
      expects = λ a. expects result (answers a.honest a.sound) wants;
      leaves = λ a. leaves Ask (entry r) (left_at_exit r) (HostRose r) (HostRoseTwice r) result (exits a.honest a.sound);
      reads_as = λ a. leaves Ask (at (reads r)) (Only (standing r.host_after.state)) (HostRose r) (HostRoseTwice r) result (read_exits a.honest a.sound);
      kept = λ a. kept a.honest a.sound;
      spares = λ a from to stood merges quiet other. undisturbed a.honest a.sound from to stood merges quiet (λ memory. other (ap answer_of memory));
      compares = λ a. seen a.honest a.sound;
      looks = tt;
      unbegun = unbegun result idle intact;
      waits = λ t waiting. unchanged r (waits t waiting.0 waiting.1);
    }
