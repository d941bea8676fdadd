-- What the answers of an apply say of refused calls, carried through its parts.
use Rattle.std.proofs.Common.{◌≡◌, inl, inr, ℕ, refl, subst, sym, Result, Ok, Err}
use Rattle.std.specs.Prelude.{IfErr}
use Rattle.document_model.specs.declared.Doc.{Doc}
use Rattle.host_core.proofs.lemmas.Counts.{rose_both}
use Rattle.host_core.specs.HostView.{Kernel, HostView, WasRefused, NoneRefused}
use Rattle.engine_model.specs.Machine.{apply_fault}
use Rattle.engine_model.specs.Failing.{Fails}
use Rattle.engine_model.specs.Refusals.{NoCallMade, RefusedOnce, FewRefused, ApplyCounts}
use Rattle.engine_model.specs.declared.answers.Left.{Left}
use Rattle.engine_model.specs.declared.answers.Left.TheVariants.{NotBegun, RolledBack, Pending}
use Rattle.engine_model.specs.declared.answers.Applied.{Applied}
use Rattle.engine_model.specs.declared.answers.BackFault.{BackFault}
use Rattle.engine_model.specs.declared.answers.BackFault.TheVariants as ba
use Rattle.engine_model.specs.declared.answers.ApplyFault.{ApplyFault}
use Rattle.engine_model.specs.declared.answers.ApplyFault.TheVariants as ap_
use Rattle.engine_model.proofs.lemmas.Refusals.{quiet_on, quiet_same, unmade_on, refused_after, refused_before, once_before, few_after}
use Rattle.engine_model.proofs.lemmas.Failing.{unbegun_quiet, fails_quiet, fails_few}
use Rattle.engine_core.specs.declared.missed.Missed.{Missed}
use Rattle.engine_core.specs.declared.missed.Missed.TheVariants as missed
use Rattle.engine_core.specs.Saying.{Start, Why, taken_back_as, pending_as, damaged_as, stopped_as}

-- one was refused, and then another
refused_both : (j m k n : ℕ) (a b c : Kernel) → WasRefused j m a b → WasRefused k n b c → WasRefused k n a c
refused_both j m k n a b c one two = record { rose = rose_both a.refusals b.refusals c.refusals one.rose two.rose; last = two.last; counted = two.counted }

module _ (tells : Type 0) (doc : Doc) (start : Start) (old new : HostView) where
  -- the change was taken back
  pub taken_counts : (why : Missed) → Why tells doc start old why → NoneRefused old.kernel new.kernel → ApplyCounts start.kernel new.kernel (Err (taken_back_as why))
  taken_counts missed.Failed is quiet = quiet_on start.kernel old.kernel new.kernel is.0 quiet
  taken_counts (missed.Refused k n) is quiet = (refused_before k n start.kernel old.kernel new.kernel is.0 quiet, λ back. once_before start.kernel old.kernel new.kernel is.1 quiet)
  taken_counts missed.Damaged is quiet = inl (quiet_on start.kernel old.kernel new.kernel is.0 quiet)
  taken_counts (missed.Differs found) is quiet = quiet_on start.kernel old.kernel new.kernel is.0 quiet
  taken_counts missed.OutOfMemory is quiet = inl (quiet_on start.kernel old.kernel new.kernel is.0 quiet)

  few_counts : NoneRefused start.kernel old.kernel → (fault : BackFault) → Fails tells old new fault → FewRefused start.kernel new.kernel
  few_counts quiet fault fails = few_after start.kernel old.kernel new.kernel quiet (fails_few tells old new fault fails)

  -- none was refused, and the restoring didn't come to its end
  first_counts : NoneRefused start.kernel old.kernel → (fault : BackFault) → Fails tells old new fault → ApplyCounts start.kernel new.kernel (Err (pending_as fault))
  first_counts quiet ba.NoCheckpoint fails = absurd fails
  first_counts quiet (ba.HostFault left) fails = few_counts quiet (ba.HostFault left) fails
  first_counts quiet (ba.KernelRefused k n left) fails = (refused_after k n start.kernel old.kernel new.kernel quiet fails.1, λ is. let e : Pending ≡ RolledBack = is in absurd (cc))
  first_counts quiet (ba.Damaged area) fails = few_counts quiet (ba.Damaged area) fails
  first_counts quiet (ba.HardwareDiffers names) fails = few_counts quiet (ba.HardwareDiffers names) fails
  first_counts quiet ba.OutOfMemory fails = few_counts quiet ba.OutOfMemory fails

  -- one was, and then it didn't
  next_counts : (j m : ℕ) → WasRefused j m start.kernel old.kernel → RefusedOnce start.kernel old.kernel → (fault : BackFault) → Fails tells old new fault → ApplyCounts start.kernel new.kernel (Err (pending_as fault))
  next_counts j m was once ba.NoCheckpoint fails = absurd fails
  next_counts j m was once (ba.HostFault left) fails = inr (once_before start.kernel old.kernel new.kernel once (fails_quiet tells old new left fails))
  next_counts j m was once (ba.KernelRefused k n left) fails = (refused_both j m k n start.kernel old.kernel new.kernel was fails.1, λ is. let e : Pending ≡ RolledBack = is in absurd (cc))
  next_counts j m was once (ba.Damaged area) fails = inr (once_before start.kernel old.kernel new.kernel once (unbegun_quiet tells old new fails.0))
  next_counts j m was once (ba.HardwareDiffers names) fails = inr (once_before start.kernel old.kernel new.kernel once (unbegun_quiet tells old new fails.0))
  next_counts j m was once ba.OutOfMemory fails = inr (once_before start.kernel old.kernel new.kernel once fails.0)

  -- no network was there to be compared
  damaged_counts : NoneRefused start.kernel old.kernel → (fault : BackFault) → Fails tells old new fault → ApplyCounts start.kernel new.kernel (Err (damaged_as fault))
  damaged_counts quiet ba.NoCheckpoint fails = absurd fails
  damaged_counts quiet (ba.HostFault left) fails = few_counts quiet (ba.HostFault left) fails
  damaged_counts quiet (ba.KernelRefused k n left) fails = few_counts quiet (ba.KernelRefused k n left) fails
  damaged_counts quiet (ba.Damaged area) fails = few_counts quiet (ba.Damaged area) fails
  damaged_counts quiet (ba.HardwareDiffers names) fails = few_counts quiet (ba.HardwareDiffers names) fails
  damaged_counts quiet ba.OutOfMemory fails = few_counts quiet ba.OutOfMemory fails

  -- the restoring didn't come to its end
  pub stopped_counts : (why : Missed) (fault : BackFault) → Why tells doc start old why → Fails tells old new fault → ApplyCounts start.kernel new.kernel (Err (stopped_as why fault))
  stopped_counts missed.Failed fault is fails = first_counts is.0 fault fails
  stopped_counts (missed.Refused k n) fault is fails = next_counts k n is.0 is.1 fault fails
  stopped_counts missed.Damaged fault is fails = damaged_counts is.0 fault fails
  stopped_counts (missed.Differs found) fault is fails = first_counts is.0 fault fails
  stopped_counts missed.OutOfMemory fault is fails = few_counts is.0 fault fails

-- where the attempt succeeded
pub finished_counts : (a b : Kernel) (result : Result Applied ApplyFault) → IfErr result (λ fault. fault ≡ ap_.InDoubt) → NoneRefused a b → ApplyCounts a b result
finished_counts a b (Ok done) doubt quiet = quiet
finished_counts a b (Err fault) doubt quiet = subst (λ (f : ApplyFault). ApplyCounts a b (Err f)) (sym doubt) quiet

-- a dump failed before anything was changed
pub left_counts : (a b c : Kernel) (left : Left) → (left ≡ Pending → ⊥) → NoneRefused a b → (left ≡ NotBegun → NoCallMade a b) → c ≡ b → ApplyCounts a c (Err (ap_.HostFault left))
left_counts a b c NotBegun side quiet unmade same = unmade_on a b c (unmade refl) (inl same)
left_counts a b c RolledBack side quiet unmade same = quiet_on a b c quiet (quiet_same b c same)
left_counts a b c Pending side quiet unmade same = absurd (side refl)

-- the settling didn't come to its end
pub unsettled_counts : (tells : Type 0) (old new : HostView) (fault : BackFault) → Fails tells old new fault → ApplyCounts old.kernel new.kernel (Err (apply_fault fault))
unsettled_counts tells old new ba.NoCheckpoint fails = absurd fails
unsettled_counts tells old new (ba.HostFault NotBegun) fails = fails.1.unmade
unsettled_counts tells old new (ba.HostFault RolledBack) fails = absurd fails
unsettled_counts tells old new (ba.HostFault Pending) fails = inl fails.1
unsettled_counts tells old new (ba.KernelRefused k n left) fails = (fails.1, λ back. fails.2)
unsettled_counts tells old new (ba.Damaged area) fails = inl (unbegun_quiet tells old new fails.0)
unsettled_counts tells old new (ba.HardwareDiffers names) fails = inl (unbegun_quiet tells old new fails.0)
unsettled_counts tells old new ba.OutOfMemory fails = inl fails.0
