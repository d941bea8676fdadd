-- All that is said of a recovery, from what the engine promises of it.
use Rattle.std.proofs.Common.{◌≡◌, inl, inr, refl, ap}
use Rattle.std.specs.Prelude.{◌≢◌, ℕ, None, Result, Ok, Err, IfOk, IfErr, OnOk, IsErrOf}
use Rattle.checkpoint_cell.specs.Steps.{Holds}
use Rattle.checkpoint_cell.specs.Settled.{Standing, standing}
use Rattle.engine_model.specs.Machine.{recover}
use Rattle.engine_model.specs.Sound.{Sound}
use Rattle.engine_model.specs.Answers.{IsBefore, IsClear}
use Rattle.engine_model.specs.Stations.{Stands, Entry, Only, Kept, at}
use Rattle.engine_model.specs.Exit.{BackExit}
use Rattle.engine_model.specs.Refusals.{BackCounts}
use Rattle.engine_model.specs.Failing.{IsUnbegun}
use Rattle.engine_model.specs.Faults.{BackAnswers, BackExact, BackSays, HasTaken, GaveSaved}
use Rattle.engine_model.specs.declared.Left.TheVariants as sides
use Rattle.engine_model.specs.declared.Recovered.{Recovered}
use Rattle.engine_model.specs.declared.Recovered.TheVariants.{Nothing, Waiting, Restored}
use Rattle.engine_model.specs.declared.BackFault.{BackFault}
use Rattle.engine_model.specs.declared.BackFault.TheVariants.{NoCheckpoint, HostFault, KernelRefused, Damaged, HardwareDiffers, OutOfMemory}
use Rattle.top_model.specs.Said.{said_recovered}
use Rattle.top_model.specs.Orders.{Inputs, recovering, order_of}
use Rattle.top_model.specs.Machine.{told, back_cause}
use Rattle.top_model.specs.Runs.{Run, MayRead, entry, reads, reads_after, left_at_exit}
use Rattle.top_model.specs.Told.{Answer, Told}
use Rattle.top_model.specs.Causes.{MayWant, MayAnswer, Comes, Expects, ExactlyOf}
use Rattle.top_model.specs.Tried.{Tried}
use Rattle.top_model.specs.Exits.{BackLeaves}
use Rattle.top_model.specs.Answered.{GoesOn, Unbegun, LeavesWaiting, Answered}
use Rattle.top_model.proofs.lemmas.Unbegun.{unchanged}
use Rattle.top_model.proofs.lemmas.Counting.{nothing_other, waits_other, recover_counted}
use Rattle.top_model.proofs.lemmas.Wanting.{may_want_recovering}

abbrev pub answer_of : Result Recovered BackFault → Answer
answer_of result = told said_recovered back_cause result

leaves : (after : Standing) (entry : Entry) (left : Stands) (result : Result Recovered BackFault) → BackExit after entry left result → BackLeaves after entry left (answer_of result)
leaves after entry left (Ok x) exit = exit
leaves after entry left (Err NoCheckpoint) exit = exit
leaves after entry left (Err (HostFault sides.NotBegun)) exit = exit
leaves after entry left (Err (HostFault sides.RolledBack)) exit = absurd exit
leaves after entry left (Err (HostFault sides.Pending)) exit = exit
leaves after entry left (Err (KernelRefused k n side)) exit = absurd exit
leaves after entry left (Err (Damaged area)) exit = absurd exit
leaves after entry left (Err (HardwareDiffers names)) exit = absurd exit
leaves after entry left (Err OutOfMemory) exit = exit

module _ (r : Run) where
  abbrev Says : Result Recovered BackFault → Type 0
  Says result = BackSays r.host_tells (recover r.now (reads r)).answer r.host r.host_after result

  abbrev Counted : Result Recovered BackFault → Type 0
  Counted result = BackCounts r.host.kernel r.host_after.kernel result

  abbrev Answers : Result Recovered BackFault → Type 0
  Answers result = BackAnswers (HasTaken r.now (reads r).cell) (recover r.now (reads r)) r.host r.host_after result

  -- nothing was to be taken back, or it waits, by the machine; or something was, and no checkpoint stands
  abbrev Done : Result Recovered BackFault → Type 0
  Done (Ok Nothing) = (recover r.now (reads r)).answer ≡ Ok Nothing
  Done (Ok (Waiting deadline)) = (recover r.now (reads r)).answer ≡ Ok (Waiting deadline)
  Done (Ok Restored) = HasTaken r.now (reads r).cell × ((reads_after r).cell ≡ None)
  Done (Err fault) = Unit {0}

  abbrev given : Recovered → Result Recovered BackFault
  given recovered = Ok recovered

  pub done_as : (recovered : Recovered) → (r.host_tells → given recovered ≡ given Nothing → (recover r.now (reads r)).answer ≡ Ok Nothing)
      → (r.host_tells → (deadline : ℕ) → given recovered ≡ given (Waiting deadline) → (recover r.now (reads r)).answer ≡ Ok (Waiting deadline))
      → (r.host_tells → given recovered ≡ given Restored → HasTaken r.now (reads r).cell) → (r.host_tells → IsClear recovered → Holds None r.host_after) → r.host_tells → Done (Ok recovered)
  done_as Nothing nothing waiting restored cleared = λ t. nothing t refl
  done_as (Waiting deadline) nothing waiting restored cleared = λ t. waiting t deadline refl
  done_as Restored nothing waiting restored cleared = λ t. (restored t refl, (cleared t tt).cell)

  may : (result : Result Recovered BackFault) → Says result → (IsErrOf result NoCheckpoint → ⊥) → MayAnswer (Ok recovering) (answer_of result)
  may (Ok x) says never = tt
  may (Err NoCheckpoint) says never = absurd (never refl)
  may (Err (HostFault side)) says never = says.2
  may (Err (KernelRefused k n side)) says never = tt
  may (Err (Damaged area)) says never = tt
  may (Err (HardwareDiffers names)) says never = tt
  may (Err OutOfMemory) says never = tt

  comes : (result : Result Recovered BackFault) → Says result → Counted result → (r.host_tells → Done result) → (IsErrOf result OutOfMemory → MayWant r) → Comes r (Ok recovering) (answer_of result)
  comes (Ok Nothing) says counts done wants = λ t. ap answer_of (done t)
  comes (Ok (Waiting deadline)) says counts done wants = λ t. ap answer_of (done t)
  comes (Ok Restored) says counts done wants = done
  comes (Err NoCheckpoint) says counts done wants = λ t. ap answer_of (says t)
  comes (Err (HostFault side)) says counts done wants = (says.0, (says.1, says.2))
  comes (Err (KernelRefused k n side)) says counts done wants = says
  comes (Err (Damaged area)) says counts done wants = λ t. let s = says t in (s.0, record { damaged = s.1; held = inl (inr counts) })
  comes (Err (HardwareDiffers names)) says counts done wants = says
  comes (Err OutOfMemory) says counts done wants = wants refl

  -- where it began, a change was to be taken back
  abbrev Begins : Result Recovered BackFault → Type 0
  Begins result = r.host_tells → IfErr result (λ fault. (IsBefore fault → ⊥) → HasTaken r.now (reads r).cell)

  -- where it is done, what stands is what the machine leaves
  abbrev StandsSo : Result Recovered BackFault → Type 0
  StandsSo result = OnOk result (reads_after r ≡ (recover r.now (reads r)).after)

  -- where it restored nothing, or failed before it began, the host is as it was
  abbrev Idles : Result Recovered BackFault → Type 0
  Idles result = IfOk result (λ done. done ≢ Restored → IsUnbegun r.host_tells r.host r.host_after)

  abbrev Fails : Result Recovered BackFault → Type 0
  Fails result = IfErr result (λ fault. IsBefore fault → IsUnbegun r.host_tells r.host r.host_after)

  -- one that restored something gave the saved network
  tried : (result : Result Recovered BackFault) → Says result → (r.host_tells → result ≡ given Restored → GaveSaved r.host_after) → Begins result → Tried r (Ok recovering) (answer_of result)
  tried (Ok Nothing) says gave begun = tt
  tried (Ok (Waiting deadline)) says gave begun = tt
  tried (Ok Restored) says gave begun = λ t. gave t refl
  tried (Err NoCheckpoint) says gave begun = tt
  tried (Err (HostFault sides.NotBegun)) says gave begun = tt
  tried (Err (HostFault sides.RolledBack)) says gave begun = tt
  tried (Err (HostFault sides.Pending)) says gave begun = λ t. begun t (λ never. never)
  tried (Err (KernelRefused k n side)) says gave begun = tt
  tried (Err (Damaged area)) says gave begun = tt
  tried (Err (HardwareDiffers names)) says gave begun = tt
  tried (Err OutOfMemory) says gave begun = says

  unbegun : (result : Result Recovered BackFault) → Idles result → Fails result → Unbegun r (Ok recovering) (answer_of result)
  unbegun (Ok Nothing) idle before = unchanged r (idle nothing_other)
  unbegun (Ok (Waiting deadline)) idle before = unchanged r (idle (waits_other deadline))
  unbegun (Ok Restored) idle before = tt
  unbegun (Err NoCheckpoint) idle before = tt
  unbegun (Err (HostFault sides.NotBegun)) idle before = unchanged r (before tt)
  unbegun (Err (HostFault sides.RolledBack)) idle before = tt
  unbegun (Err (HostFault sides.Pending)) idle before = tt
  unbegun (Err (KernelRefused k n side)) idle before = tt
  unbegun (Err (Damaged area)) idle before = unchanged r (before tt)
  unbegun (Err (HardwareDiffers names)) idle before = unchanged r (before tt)
  unbegun (Err OutOfMemory) idle before = tt

  -- where a change waits that isn't due, nothing was restored
  waits : (result : Result Recovered BackFault) → (r.host_tells → Done result) → Begins result → Idles result → Fails result → LeavesWaiting r (Ok recovering)
  waits (Ok Nothing) done begun idle before = λ t waiting. unchanged r (idle nothing_other)
  waits (Ok (Waiting deadline)) done begun idle before = λ t waiting. unchanged r (idle (waits_other deadline))
  waits (Ok Restored) done begun idle before = λ t waiting. absurd (waiting.1 (done t).0)
  waits (Err NoCheckpoint) done begun idle before = λ t waiting. unchanged r (before tt)
  waits (Err (HostFault sides.NotBegun)) done begun idle before = λ t waiting. unchanged r (before tt)
  waits (Err (HostFault sides.RolledBack)) done begun idle before = λ t waiting. absurd (waiting.1 (begun t (λ never. never)))
  waits (Err (HostFault sides.Pending)) done begun idle before = λ t waiting. absurd (waiting.1 (begun t (λ never. never)))
  waits (Err (KernelRefused k n side)) done begun idle before = λ t waiting. absurd (waiting.1 (begun t (λ never. never)))
  waits (Err (Damaged area)) done begun idle before = λ t waiting. unchanged r (before tt)
  waits (Err (HardwareDiffers names)) done begun idle before = λ t waiting. unchanged r (before tt)
  waits (Err OutOfMemory) done begun idle before = λ t waiting. absurd (waiting.1 (begun t (λ never. never)))

  exactly : (result : Result Recovered BackFault) → Says result → BackExact (recover r.now (reads r)).answer result → StandsSo result → (IsErrOf result OutOfMemory → MayWant r) → ExactlyOf r (Ok recovering) (answer_of result)
  exactly (Ok x) says is stands wants = (ap answer_of is, stands)
  exactly (Err NoCheckpoint) says is stands wants = ap answer_of is
  exactly (Err (HostFault side)) says is stands wants = says.0
  exactly (Err (KernelRefused k n side)) says is stands wants = is
  exactly (Err (Damaged area)) says is stands wants = inr (ap answer_of is)
  exactly (Err (HardwareDiffers names)) says is stands wants = inr (ap answer_of is)
  exactly (Err OutOfMemory) says is stands wants = wants refl

  expects : (result : Result Recovered BackFault) → Answers result → (IsErrOf result OutOfMemory → MayWant r) → Expects r (Ok recovering) (answer_of result)
  expects (Ok x) is wants = record { answer = ap answer_of is.answer; after = is.after }
  expects (Err NoCheckpoint) is wants = record { answer = ap answer_of is.answer; after = is.after }
  expects (Err (HostFault side)) is wants = is.0
  expects (Err (KernelRefused k n side)) is wants = absurd is
  expects (Err (Damaged area)) is wants = record { answer = ap answer_of is.answer; after = is.after }
  expects (Err (HardwareDiffers names)) is wants = record { answer = ap answer_of is.answer; after = is.after }
  expects (Err OutOfMemory) is wants = wants refl

  module _ (inputs : Inputs) (may_read : MayRead r inputs) (is : order_of r.in_script inputs r.words ≡ Ok recovering) (result : Result Recovered BackFault) (says : Says result) (counts : Counted result)
      (unmade : IfOk result (λ x. x ≢ Restored → r.host_after.kernel ≡ r.host.kernel)) (gave : r.host_tells → result ≡ given Restored → GaveSaved r.host_after) (done : r.host_tells → Done result)
      (begun : Begins result) (idle : Idles result) (before : Fails result)
      (exact : r.honest → BackExact (recover r.now (reads r)).answer result) (after : r.honest → StandsSo result)
      (answers : r.honest → Sound r.host → Answers result)
      (exits : r.honest → Sound r.host → BackExit (recover r.now (reads r)).after (entry r) (left_at_exit r) result)
      (read_exits : r.honest → Sound r.host → BackExit (recover r.now (reads r)).after (at (reads r)) (Only (standing r.host_after.state)) result)
      (kept : r.honest → Sound r.host → Kept (Only (recover r.now (reads r)).after) r.host r.host_after)
      (never : IsErrOf result NoCheckpoint → ⊥) (memory : r.host_tells → IsErrOf result OutOfMemory → HasTaken r.now (reads r).cell) where
    wants : IsErrOf result OutOfMemory → MayWant r
    wants out = may_want_recovering r inputs recovering is refl (λ t. memory t out)

    pub answered : GoesOn r → Told r (Ok recovering) (answer_of result) → Answered r
    answered goes_on told = record {
      order = Ok recovering;
      gives = (inputs, may_read, is);
      answer = answer_of result;
      may = may result says never;
      comes = comes result says counts done wants;
      counts = recover_counted r.host.kernel r.host_after.kernel result counts unmade;
      tried = tried result says gave begun;
      exactly = λ honest. exactly result says (exact honest) (after honest) wants;
      told = told;
      goes_on = goes_on;
      expects = λ a. expects result (answers a.honest a.sound) wants;
      leaves = λ a. leaves (recover r.now (reads r)).after (entry r) (left_at_exit r) result (exits a.honest a.sound);
      reads_as = λ a. leaves (recover r.now (reads r)).after (at (reads r)) (Only (standing r.host_after.state)) result (read_exits a.honest a.sound);
      kept = λ a. kept a.honest a.sound;
      spares = λ a. tt;
      compares = λ a never. absurd never;
      looks = tt;
      unbegun = unbegun result idle before;
      waits = waits result done begun idle before;
    }
