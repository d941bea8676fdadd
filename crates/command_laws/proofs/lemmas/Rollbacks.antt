-- All that is said of a rollback, from what the engine promises of it.
use Rattle.std.proofs.Common.{◌≡◌, inl, inr, refl, ap}
use Rattle.std.specs.Prelude.{⊤, None, Result, Ok, Err, IfErr, OnOk, IsErrOf}
use Rattle.checkpoint_cell.specs.Settled.{Standing, standing}
use Rattle.engine_model.specs.Machine.{rollback}
use Rattle.engine_model.specs.Sound.{Sound}
use Rattle.engine_model.specs.Answers.{IsBefore}
use Rattle.engine_model.specs.Stations.{Stands, Entry, Only, Kept, at}
use Rattle.engine_model.specs.Exit.{BackExit}
use Rattle.engine_model.specs.Refusals.{BackCounts}
use Rattle.engine_model.specs.Failing.{IsUnbegun}
use Rattle.engine_model.specs.Faults.{BackAnswers, BackExact, BackSays, HasSet, GaveSaved}
use Rattle.engine_model.specs.declared.Left.TheVariants as sides
use Rattle.engine_model.specs.declared.BackFault.{BackFault}
use Rattle.engine_model.specs.declared.BackFault.TheVariants.{NoCheckpoint, HostFault, KernelRefused, Damaged, HardwareDiffers, OutOfMemory}
use Rattle.top_model.specs.Said.{rolled_back}
use Rattle.top_model.specs.Orders.{Inputs, rolling_back, order_of}
use Rattle.top_model.specs.Machine.{told, back_cause}
use Rattle.top_model.specs.Runs.{Run, MayRead, entry, reads, reads_after, left_at_exit}
use Rattle.top_model.specs.Told.{Answer, Told}
use Rattle.top_model.specs.Causes.{MayWant, MayAnswer, Comes, Expects, ExactlyOf}
use Rattle.top_model.specs.Tried.{Tried}
use Rattle.top_model.specs.Exits.{BackLeaves}
use Rattle.top_model.specs.Answered.{GoesOn, Unbegun, Answered}
use Rattle.top_model.proofs.lemmas.Unbegun.{unchanged}
use Rattle.top_model.proofs.lemmas.Counting.{rollback_counted}
use Rattle.top_model.proofs.lemmas.Wanting.{may_want_rolling_back}

abbrev pub answer_of : Result ⊤ BackFault → Answer
answer_of result = told (λ (x : ⊤). rolled_back) back_cause result

leaves : (after : Standing) (entry : Entry) (left : Stands) (result : Result ⊤ BackFault) → BackExit after entry left result → BackLeaves after entry left (answer_of result)
leaves after entry left (Ok x) exit = exit
leaves after entry left (Err NoCheckpoint) exit = exit
leaves after entry left (Err (HostFault sides.NotBegun)) exit = exit
leaves after entry left (Err (HostFault sides.RolledBack)) exit = absurd exit
leaves after entry left (Err (HostFault sides.Pending)) exit = exit
leaves after entry left (Err (KernelRefused k n side)) exit = absurd exit
leaves after entry left (Err (Damaged area)) exit = absurd exit
leaves after entry left (Err (HardwareDiffers names)) exit = absurd exit
leaves after entry left (Err OutOfMemory) exit = exit

module _ (r : Run) where
  abbrev Says : Result ⊤ BackFault → Type 0
  Says result = BackSays r.host_tells (rollback (reads r)).answer r.host r.host_after result

  abbrev Counted : Result ⊤ BackFault → Type 0
  Counted result = BackCounts r.host.kernel r.host_after.kernel result

  abbrev Answers : Result ⊤ BackFault → Type 0
  Answers result = BackAnswers (HasSet (reads r).cell) (rollback (reads r)) r.host r.host_after result

  -- a checkpoint stood, and none does
  abbrev Done : Result ⊤ BackFault → Type 0
  Done (Ok x) = HasSet (reads r).cell × ((reads_after r).cell ≡ None)
  Done (Err fault) = Unit {0}

  may : (result : Result ⊤ BackFault) → Says result → MayAnswer (Ok rolling_back) (answer_of result)
  may (Ok x) says = tt
  may (Err NoCheckpoint) says = tt
  may (Err (HostFault side)) says = says.2
  may (Err (KernelRefused k n side)) says = tt
  may (Err (Damaged area)) says = tt
  may (Err (HardwareDiffers names)) says = tt
  may (Err OutOfMemory) says = tt

  comes : (result : Result ⊤ BackFault) → Says result → Counted result → (r.host_tells → Done result) → (IsErrOf result OutOfMemory → MayWant r) → Comes r (Ok rolling_back) (answer_of result)
  comes (Ok x) says counts done wants = done
  comes (Err NoCheckpoint) says counts done wants = λ t. ap answer_of (says t)
  comes (Err (HostFault side)) says counts done wants = (says.0, (says.1, says.2))
  comes (Err (KernelRefused k n side)) says counts done wants = says
  comes (Err (Damaged area)) says counts done wants = λ t. let s = says t in (s.0, record { damaged = s.1; held = inl (inr counts) })
  comes (Err (HardwareDiffers names)) says counts done wants = says
  comes (Err OutOfMemory) says counts done wants = wants refl

  -- where it began, a checkpoint stood
  abbrev Begins : Result ⊤ BackFault → Type 0
  Begins result = r.host_tells → IfErr result (λ fault. (IsBefore fault → ⊥) → HasSet (reads r).cell)

  -- where it is done, what stands is what the machine leaves
  abbrev StandsSo : Result ⊤ BackFault → Type 0
  StandsSo result = OnOk result (reads_after r ≡ (rollback (reads r)).after)

  -- where it didn't begin, the host is as it was
  abbrev Idles : Result ⊤ BackFault → Type 0
  Idles result = IfErr result (λ fault. IsBefore fault → IsUnbegun r.host_tells r.host r.host_after)

  -- one that is done gave the saved network
  tried : (result : Result ⊤ BackFault) → Says result → (r.host_tells → OnOk result (GaveSaved r.host_after)) → Begins result → Tried r (Ok rolling_back) (answer_of result)
  tried (Ok x) says gave begun = gave
  tried (Err NoCheckpoint) says gave begun = tt
  tried (Err (HostFault sides.NotBegun)) says gave begun = tt
  tried (Err (HostFault sides.RolledBack)) says gave begun = tt
  tried (Err (HostFault sides.Pending)) says gave begun = λ t. begun t (λ never. never)
  tried (Err (KernelRefused k n side)) says gave begun = tt
  tried (Err (Damaged area)) says gave begun = tt
  tried (Err (HardwareDiffers names)) says gave begun = tt
  tried (Err OutOfMemory) says gave begun = says

  unbegun : (result : Result ⊤ BackFault) → Idles result → Unbegun r (Ok rolling_back) (answer_of result)
  unbegun (Ok x) idle = tt
  unbegun (Err NoCheckpoint) idle = unchanged r (idle tt)
  unbegun (Err (HostFault sides.NotBegun)) idle = unchanged r (idle tt)
  unbegun (Err (HostFault sides.RolledBack)) idle = tt
  unbegun (Err (HostFault sides.Pending)) idle = tt
  unbegun (Err (KernelRefused k n side)) idle = tt
  unbegun (Err (Damaged area)) idle = unchanged r (idle tt)
  unbegun (Err (HardwareDiffers names)) idle = unchanged r (idle tt)
  unbegun (Err OutOfMemory) idle = tt

  exactly : (result : Result ⊤ BackFault) → Says result → BackExact (rollback (reads r)).answer result → StandsSo result → (IsErrOf result OutOfMemory → MayWant r) → ExactlyOf r (Ok rolling_back) (answer_of result)
  exactly (Ok x) says is stands wants = (ap answer_of is, stands)
  exactly (Err NoCheckpoint) says is stands wants = ap answer_of is
  exactly (Err (HostFault side)) says is stands wants = says.0
  exactly (Err (KernelRefused k n side)) says is stands wants = is
  exactly (Err (Damaged area)) says is stands wants = inr (ap answer_of is)
  exactly (Err (HardwareDiffers names)) says is stands wants = inr (ap answer_of is)
  exactly (Err OutOfMemory) says is stands wants = wants refl

  expects : (result : Result ⊤ BackFault) → Answers result → (IsErrOf result OutOfMemory → MayWant r) → Expects r (Ok rolling_back) (answer_of result)
  expects (Ok x) is wants = record { answer = ap answer_of is.answer; after = is.after }
  expects (Err NoCheckpoint) is wants = record { answer = ap answer_of is.answer; after = is.after }
  expects (Err (HostFault side)) is wants = is.0
  expects (Err (KernelRefused k n side)) is wants = absurd is
  expects (Err (Damaged area)) is wants = record { answer = ap answer_of is.answer; after = is.after }
  expects (Err (HardwareDiffers names)) is wants = record { answer = ap answer_of is.answer; after = is.after }
  expects (Err OutOfMemory) is wants = wants refl

  module _ (inputs : Inputs) (may_read : MayRead r inputs) (is : order_of r.in_script inputs r.words ≡ Ok rolling_back) (result : Result ⊤ BackFault) (says : Says result) (counts : Counted result)
      (gave : r.host_tells → OnOk result (GaveSaved r.host_after)) (done : r.host_tells → Done result) (begun : Begins result) (idle : Idles result)
      (exact : r.honest → BackExact (rollback (reads r)).answer result) (after : r.honest → StandsSo result)
      (answers : r.honest → Sound r.host → Answers result)
      (exits : r.honest → Sound r.host → BackExit (rollback (reads r)).after (entry r) (left_at_exit r) result)
      (read_exits : r.honest → Sound r.host → BackExit (rollback (reads r)).after (at (reads r)) (Only (standing r.host_after.state)) result)
      (kept : r.honest → Sound r.host → Kept (Only (rollback (reads r)).after) r.host r.host_after)
      (memory : r.host_tells → IsErrOf result OutOfMemory → HasSet (reads r).cell) where
    wants : IsErrOf result OutOfMemory → MayWant r
    wants out = may_want_rolling_back r inputs rolling_back is refl (λ t. memory t out)

    pub answered : GoesOn r → Told r (Ok rolling_back) (answer_of result) → Answered r
    answered goes_on told = record {
      order = Ok rolling_back;
      gives = (inputs, may_read, is);
      answer = answer_of result;
      may = may result says;
      comes = comes result says counts done wants;
      counts = rollback_counted r.host.kernel r.host_after.kernel result counts;
      tried = tried result says gave begun;
      exactly = λ honest. exactly result says (exact honest) (after honest) wants;
      told = told;
      goes_on = goes_on;
      expects = λ a. expects result (answers a.honest a.sound) wants;
      leaves = λ a. leaves (rollback (reads r)).after (entry r) (left_at_exit r) result (exits a.honest a.sound);
      reads_as = λ a. leaves (rollback (reads r)).after (at (reads r)) (Only (standing r.host_after.state)) result (read_exits a.honest a.sound);
      kept = λ a. kept a.honest a.sound;
      spares = λ a. tt;
      compares = λ a never. absurd never;
      looks = tt;
      unbegun = unbegun result idle;
      waits = tt;
    }
