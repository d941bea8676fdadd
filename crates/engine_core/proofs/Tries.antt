-- What an apply tried before it says that a change may stand half way, what it dumped, and what it took back.
use Rattle.std.proofs.Common.{◌≡◌, ◌≢◌, ◌⊎◌, ◌≤◌, ◌∙◌, inl, inr, arith, ℕ, Bool, true, false, refl, sym, ap, subst, Option, Some, None, Result, Ok, Err}
use Rattle.std.specs.Prelude.{OnOk, OnErr, IfErr}
use Rattle.net_model.specs.NetData.{NetData}
use Rattle.document_model.specs.declared.Doc.{Doc}
use Rattle.host_core.specs.Faults.{Rose}
use Rattle.host_core.proofs.lemmas.Counts.{rose_before, rose_twice, twice_after}
use Rattle.host_core.specs.HostView.{State, HostView}
use Rattle.checkpoint_cell.specs.Cell.{Checkpoint, cell_of, saved_net, in_phase}
use Rattle.checkpoint_cell.specs.Steps.{EitherPhase}
use Rattle.checkpoint_cell.specs.declared.Phase.TheVariants.{Applying, Waiting}
use Rattle.checkpoint_cell.specs.Settled.{Standing, standing, restored_to}
use Rattle.engine_model.specs.Failing.{Fails}
use Rattle.engine_model.specs.Faults.{Tries, FailsTwice, Dumps, Backs}
use Rattle.engine_model.proofs.lemmas.Failing.{fails_rose, fails_quiet}
use Rattle.engine_model.specs.declared.answers.Left.{Left}
use Rattle.engine_model.specs.declared.answers.Left.TheVariants.{NotBegun, RolledBack, Pending}
use Rattle.engine_model.specs.declared.answers.Applied.{Applied}
use Rattle.engine_model.specs.declared.answers.BackFault.{BackFault}
use Rattle.engine_model.specs.declared.answers.BackFault.TheVariants as ba
use Rattle.engine_model.specs.declared.answers.ApplyFault.{ApplyFault}
use Rattle.engine_model.specs.declared.answers.ApplyFault.TheVariants as ap_
use Rattle.engine_model.specs.Machine.{apply_fault}
use Rattle.engine_core.specs.declared.missed.Missed.{Missed}
use Rattle.engine_core.specs.declared.missed.Missed.TheVariants as missed
use Rattle.engine_core.specs.Attempts.{IsFault}
use Rattle.engine_core.specs.Saying.{Start, Why, taken_back_as, pending_as, damaged_as, stopped_as, IsGivenUp}

-- ---- what was tried

-- the change was taken back
pub taken_tries : (excuse : Type 0) (faults refusals : ℕ) (new : HostView) (why : Missed) → Tries excuse faults refusals new (Err (taken_back_as why))
taken_tries excuse faults refusals new missed.Failed = tt
taken_tries excuse faults refusals new (missed.Refused k n) = tt
taken_tries excuse faults refusals new missed.Damaged = tt
taken_tries excuse faults refusals new (missed.Differs found) = tt
taken_tries excuse faults refusals new missed.OutOfMemory = tt

module _ (tells : Type 0) (doc : Doc) (start : Start) (old new : HostView) (later : old.faults ≤ new.faults) where
  module _ (excuse : Type 0) where
    -- the host failed, and then the restoring didn't come to its end
    failed_tries : (fault : BackFault) → Fails tells old new fault → Rose start.faults old.faults → Tries excuse start.faults start.kernel.refusals new (Err (pending_as fault))
    failed_tries ba.NoCheckpoint fails was = tt
    failed_tries (ba.HostFault left) fails was = inr (inl (rose_twice start.faults old.faults new.faults was (fails_rose tells old new left fails)))
    failed_tries (ba.KernelRefused k n left) fails was = inr (inr (rose_before start.faults old.faults new.faults was later))
    failed_tries (ba.Damaged area) fails was = tt
    failed_tries (ba.HardwareDiffers names) fails was = tt
    failed_tries ba.OutOfMemory fails was = tt

    -- a call was refused, and then it didn't
    refused_tries : (fault : BackFault) → Fails tells old new fault → Rose start.kernel.refusals old.kernel.refusals → Tries excuse start.faults start.kernel.refusals new (Err (pending_as fault))
    refused_tries ba.NoCheckpoint fails was = tt
    refused_tries (ba.HostFault left) fails was = inr (inr (subst (λ (r : ℕ). Rose start.kernel.refusals r) (sym (fails_quiet tells old new left fails).refusals) was))
    refused_tries (ba.KernelRefused k n left) fails was = inr (inl (rose_twice start.kernel.refusals old.kernel.refusals new.kernel.refusals was fails.1.rose))
    refused_tries (ba.Damaged area) fails was = tt
    refused_tries (ba.HardwareDiffers names) fails was = tt
    refused_tries ba.OutOfMemory fails was = tt

    -- the network that was made was compared
    differs_tries : (f : BackFault) → excuse → Tries excuse start.faults start.kernel.refusals new (Err (pending_as f))
    differs_tries ba.NoCheckpoint why = tt
    differs_tries (ba.HostFault left) why = inl why
    differs_tries (ba.KernelRefused k n left) why = inl why
    differs_tries (ba.Damaged area) why = tt
    differs_tries (ba.HardwareDiffers names) why = tt
    differs_tries ba.OutOfMemory why = tt

    damaged_tries : (f : BackFault) → Tries excuse start.faults start.kernel.refusals new (Err (damaged_as f))
    damaged_tries ba.NoCheckpoint = tt
    damaged_tries (ba.HostFault left) = tt
    damaged_tries (ba.KernelRefused k n left) = tt
    damaged_tries (ba.Damaged area) = tt
    damaged_tries (ba.HardwareDiffers names) = tt
    damaged_tries ba.OutOfMemory = tt

    -- the restoring didn't come to its end
    pub stopped_tries : (why : Missed) (fault : BackFault) → Why tells doc start old why → Fails tells old new fault → ((found : NetData) → why ≡ missed.Differs found → excuse) → Tries excuse start.faults start.kernel.refusals new (Err (stopped_as why fault))
    stopped_tries missed.Failed fault is fails compared = failed_tries fault fails is.1
    stopped_tries (missed.Refused k n) fault is fails compared = refused_tries fault fails is.0.rose
    stopped_tries missed.Damaged fault is fails compared = damaged_tries fault
    stopped_tries (missed.Differs found) fault is fails compared = differs_tries fault (compared found refl)
    stopped_tries missed.OutOfMemory fault is fails compared = tt

-- where the attempt succeeded, only the clearing may fail
pub finished_tries : (excuse : Type 0) (faults refusals : ℕ) (new : HostView) (result : Result Applied ApplyFault) → IfErr result (λ fault. fault ≡ ap_.InDoubt) → Tries excuse faults refusals new result
finished_tries excuse faults refusals new (Ok done) doubt = tt
finished_tries excuse faults refusals new (Err fault) doubt = subst (λ (f : ApplyFault). Tries excuse faults refusals new (Err f)) (sym doubt) tt

-- a dump failed before anything was changed
pub left_tries : (excuse : Type 0) (faults refusals : ℕ) (new : HostView) (left : Left) → left ≢ Pending → Tries excuse faults refusals new (Err (ap_.HostFault left))
left_tries excuse faults refusals new NotBegun is = tt
left_tries excuse faults refusals new RolledBack is = tt
left_tries excuse faults refusals new Pending is = absurd (is refl)

-- with one excuse more
pub tries_more : (first second : Type 0) (faults refusals : ℕ) (new : HostView) (result : Result Applied ApplyFault) → Tries second faults refusals new result → Tries (first ⊎ second) faults refusals new result
tries_more first second faults refusals new (Ok done) tries = tt
tries_more first second faults refusals new (Err (ap_.Pending deadline)) tries = tt
tries_more first second faults refusals new (Err (ap_.MergeRefused refused)) tries = tt
tries_more first second faults refusals new (Err (ap_.HostFault NotBegun)) tries = tt
tries_more first second faults refusals new (Err (ap_.HostFault RolledBack)) tries = tt
tries_more first second faults refusals new (Err (ap_.HostFault Pending)) (inl why) = inl (inr why)
tries_more first second faults refusals new (Err (ap_.HostFault Pending)) (inr rose) = inr rose
tries_more first second faults refusals new (Err ap_.InDoubt) tries = tt
tries_more first second faults refusals new (Err (ap_.KernelRefused k n NotBegun)) tries = tt
tries_more first second faults refusals new (Err (ap_.KernelRefused k n RolledBack)) tries = tt
tries_more first second faults refusals new (Err (ap_.KernelRefused k n Pending)) (inl why) = inl (inr why)
tries_more first second faults refusals new (Err (ap_.KernelRefused k n Pending)) (inr rose) = inr rose
tries_more first second faults refusals new (Err (ap_.NotVerified found left)) tries = tt
tries_more first second faults refusals new (Err (ap_.Damaged area)) tries = tt
tries_more first second faults refusals new (Err (ap_.HardwareDiffers names)) tries = tt
tries_more first second faults refusals new (Err ap_.OutOfMemory) tries = tt

-- the settling didn't come to its end
pub unsettled_tries : (taken second : Type 0) (faults refusals : ℕ) (new : HostView) (fault : BackFault) → (fault ≡ ba.HostFault Pending → taken) → ((k n : ℕ) (left : Left) → fault ≡ ba.KernelRefused k n left → taken)
    → Tries (taken ⊎ second) faults refusals new (Err (apply_fault fault))
unsettled_tries taken second faults refusals new ba.NoCheckpoint failed refused = tt
unsettled_tries taken second faults refusals new (ba.HostFault NotBegun) failed refused = tt
unsettled_tries taken second faults refusals new (ba.HostFault RolledBack) failed refused = tt
unsettled_tries taken second faults refusals new (ba.HostFault Pending) failed refused = inl (inl (failed refl))
unsettled_tries taken second faults refusals new (ba.KernelRefused k n NotBegun) failed refused = tt
unsettled_tries taken second faults refusals new (ba.KernelRefused k n RolledBack) failed refused = tt
unsettled_tries taken second faults refusals new (ba.KernelRefused k n Pending) failed refused = inl (inl (refused k n Pending refl))
unsettled_tries taken second faults refusals new (ba.Damaged area) failed refused = tt
unsettled_tries taken second faults refusals new (ba.HardwareDiffers names) failed refused = tt
unsettled_tries taken second faults refusals new ba.OutOfMemory failed refused = tt

-- ---- on an honest host, what failed twice

-- the change was taken back
pub taken_twice : (taken : Type 0) (faults : ℕ) (new : HostView) (why : Missed) → FailsTwice taken faults new (Err (taken_back_as why))
taken_twice taken faults new missed.Failed = tt
taken_twice taken faults new (missed.Refused k n) = tt
taken_twice taken faults new missed.Damaged = tt
taken_twice taken faults new (missed.Differs found) = tt
taken_twice taken faults new missed.OutOfMemory = tt

pending_twice : (taken tells : Type 0) (start : ℕ) (old new : HostView) (fault : BackFault) → Rose start old.faults → Fails tells old new fault → FailsTwice taken start new (Err (pending_as fault))
pending_twice taken tells start old new ba.NoCheckpoint was fails = tt
pending_twice taken tells start old new (ba.HostFault left) was fails = inr (rose_twice start old.faults new.faults was (fails_rose tells old new left fails))
pending_twice taken tells start old new (ba.KernelRefused k n left) was fails = tt
pending_twice taken tells start old new (ba.Damaged area) was fails = tt
pending_twice taken tells start old new (ba.HardwareDiffers names) was fails = tt
pending_twice taken tells start old new ba.OutOfMemory was fails = tt

-- the restoring didn't come to its end
pub stopped_twice : (taken tells : Type 0) (start : ℕ) (old new : HostView) (why : Missed) (fault : BackFault) → IsFault why → (why ≡ missed.Failed → Rose start old.faults) → Fails tells old new fault → FailsTwice taken start new (Err (stopped_as why fault))
stopped_twice taken tells start old new missed.Failed fault is was fails = pending_twice taken tells start old new fault (was refl) fails
stopped_twice taken tells start old new missed.OutOfMemory fault is was fails = tt
stopped_twice taken tells start old new (missed.Refused k n) fault is was fails = absurd is
stopped_twice taken tells start old new missed.Damaged fault is was fails = absurd is
stopped_twice taken tells start old new (missed.Differs found) fault is was fails = absurd is

-- where the attempt succeeded, only the clearing may fail
pub finished_twice : (taken : Type 0) (faults : ℕ) (new : HostView) (result : Result Applied ApplyFault) → IfErr result (λ fault. fault ≡ ap_.InDoubt) → FailsTwice taken faults new result
finished_twice taken faults new (Ok done) doubt = tt
finished_twice taken faults new (Err fault) doubt = subst (λ (f : ApplyFault). FailsTwice taken faults new (Err f)) (sym doubt) tt

-- a dump failed before anything was changed
pub left_twice : (taken : Type 0) (faults : ℕ) (new : HostView) (left : Left) → left ≢ Pending → FailsTwice taken faults new (Err (ap_.HostFault left))
left_twice taken faults new NotBegun is = tt
left_twice taken faults new RolledBack is = tt
left_twice taken faults new Pending is = absurd (is refl)

-- the same of a command that began earlier
pub twice_before : (taken : Type 0) (start faults : ℕ) (new : HostView) (result : Result Applied ApplyFault) → start ≤ faults → FailsTwice ⊥ faults new result → FailsTwice taken start new result
twice_before taken start faults new (Ok done) le twice = tt
twice_before taken start faults new (Err (ap_.Pending deadline)) le twice = tt
twice_before taken start faults new (Err (ap_.MergeRefused refused)) le twice = tt
twice_before taken start faults new (Err (ap_.HostFault NotBegun)) le twice = tt
twice_before taken start faults new (Err (ap_.HostFault RolledBack)) le twice = tt
twice_before taken start faults new (Err (ap_.HostFault Pending)) le (inl none) = absurd none
twice_before taken start faults new (Err (ap_.HostFault Pending)) le (inr rose) = inr (twice_after start faults new.faults le rose)
twice_before taken start faults new (Err ap_.InDoubt) le twice = tt
twice_before taken start faults new (Err (ap_.KernelRefused k n left)) le twice = tt
twice_before taken start faults new (Err (ap_.NotVerified found left)) le twice = tt
twice_before taken start faults new (Err (ap_.Damaged area)) le twice = tt
twice_before taken start faults new (Err (ap_.HardwareDiffers names)) le twice = tt
twice_before taken start faults new (Err ap_.OutOfMemory) le twice = tt

-- the settling didn't come to its end
pub unsettled_twice : (taken : Type 0) (faults : ℕ) (new : HostView) (fault : BackFault) → (fault ≡ ba.HostFault Pending → taken) → FailsTwice taken faults new (Err (apply_fault fault))
unsettled_twice taken faults new ba.NoCheckpoint pending = tt
unsettled_twice taken faults new (ba.HostFault NotBegun) pending = tt
unsettled_twice taken faults new (ba.HostFault RolledBack) pending = tt
unsettled_twice taken faults new (ba.HostFault Pending) pending = inl (pending refl)
unsettled_twice taken faults new (ba.KernelRefused k n left) pending = tt
unsettled_twice taken faults new (ba.Damaged area) pending = tt
unsettled_twice taken faults new (ba.HardwareDiffers names) pending = tt
unsettled_twice taken faults new ba.OutOfMemory pending = tt

-- ---- what was dumped

some_is : (fresh : Option NetData) (from net : NetData) → fresh ≡ Some from → fresh ≡ Some net → from ≡ net
some_is fresh from net is has = let e : Some from ≡ Some net = sym is ∙ has in cc

-- a dump that is as fresh as it was, or isn't any more
pub fresh_on : (old mid new : Option NetData) → (mid ≡ old) ⊎ (mid ≡ None) → new ≡ mid → (new ≡ old) ⊎ (new ≡ None)
fresh_on old mid new (inl same) is = inl (is ∙ same)
fresh_on old mid new (inr none) is = inr (is ∙ none)

-- what holds of every answer
pub ok_any : {A E P : Type 0} (result : Result A E) → P → OnOk result P
ok_any (Ok a) p = p
ok_any (Err e) p = tt

pub err_any : {A E P : Type 0} (result : Result A E) → P → OnErr result P
err_any (Ok a) p = tt
err_any (Err e) p = p

-- the last dump that is fresh is the one of the network that was saved
fresh_is : (mid new : Option NetData) (from net : NetData) → mid ≡ Some from → (new ≡ mid) ⊎ (new ≡ None) → new ≡ Some net → from ≡ net
fresh_is mid new from net is (inl same) has = some_is mid from net is (sym same ∙ has)
fresh_is mid new from net is (inr none) has = let e : None ≡ Some net = sym none ∙ has in absurd (cc)

pub dumped_as : (tells : Type 0) (no_verify : Bool) (from : NetData) (old mid new : HostView) (result : Result Applied ApplyFault) → (tells → old.fresh ≡ Some from) → (no_verify ≡ false → mid.kernel.calls ≡ 0) → new.kernel ≡ mid.kernel
    → (tells → no_verify ≡ true → (mid.fresh ≡ old.fresh) ⊎ (mid.fresh ≡ None)) → (tells → new.fresh ≡ mid.fresh) → (tells → saved_net new.state.cell ≡ Some from)
    → IfErr result (λ fault. fault ≡ ap_.InDoubt) → Dumps tells no_verify new result
dumped_as tells no_verify from old mid new (Ok done) was calls kernel fresh same saved doubt = (
  λ verified. (λ i. (kernel i).calls) ∙ calls verified,
  λ skipped told net is. saved told ∙ ap (λ (n : NetData). Some n) (fresh_is old.fresh mid.fresh from net (was told) (fresh told skipped) (sym (same told) ∙ is)),
)
dumped_as tells no_verify from old mid new (Err fault) was calls kernel fresh same saved doubt =
    subst (λ (f : ApplyFault). Dumps tells no_verify new (Err f)) (sym doubt) (λ verified. (λ i. (kernel i).calls) ∙ calls verified)

-- where it is given up, nothing is said of the dump
pub given_dumps : (tells : Type 0) (no_verify : Bool) (new : HostView) (fault : ApplyFault) → IsGivenUp fault → Dumps tells no_verify new (Err fault)
given_dumps tells no_verify new (ap_.Pending deadline) given = tt
given_dumps tells no_verify new (ap_.MergeRefused refused) given = tt
given_dumps tells no_verify new (ap_.HostFault left) given = tt
given_dumps tells no_verify new ap_.InDoubt given = absurd given
given_dumps tells no_verify new (ap_.KernelRefused k n left) given = tt
given_dumps tells no_verify new (ap_.NotVerified found left) given = tt
given_dumps tells no_verify new (ap_.Damaged area) given = tt
given_dumps tells no_verify new (ap_.HardwareDiffers names) given = tt
given_dumps tells no_verify new ap_.OutOfMemory given = tt

-- nor where the settling didn't come to its end
pub unsettled_dumps : (tells : Type 0) (no_verify : Bool) (new : HostView) (fault : BackFault) → Dumps tells no_verify new (Err (apply_fault fault))
unsettled_dumps tells no_verify new ba.NoCheckpoint = tt
unsettled_dumps tells no_verify new (ba.HostFault left) = tt
unsettled_dumps tells no_verify new (ba.KernelRefused k n left) = tt
unsettled_dumps tells no_verify new (ba.Damaged area) = tt
unsettled_dumps tells no_verify new (ba.HardwareDiffers names) = tt
unsettled_dumps tells no_verify new ba.OutOfMemory = tt

-- ---- what was taken back

-- a checkpoint in either phase stands
pub phase_stands : (checkpoint : Checkpoint) (cell : Option Checkpoint) → EitherPhase checkpoint cell → cell ≢ None
phase_stands checkpoint cell (inl is) none = let e : Some (in_phase Applying checkpoint) ≡ None = sym is ∙ none in cc
phase_stands checkpoint cell (inr is) none = let e : Some (in_phase Waiting checkpoint) ≡ None = sym is ∙ none in cc

-- the change was
pub taken_backs : (before : Option NetData) (new : HostView) (why : Missed) → (new.state.net ≡ saved_net new.state.cell) ⊎ (new.state.net ≡ before) → Backs before new (Err (taken_back_as why))
taken_backs before new missed.Failed is = is
taken_backs before new (missed.Refused k n) is = tt
taken_backs before new missed.Damaged is = tt
taken_backs before new (missed.Differs found) is = tt
taken_backs before new missed.OutOfMemory is = tt

-- a restoring was made, or none was needed
pub back_or : (before : Option NetData) (old new : HostView) (was : Bool) → (was ≡ true → new.state.net ≡ saved_net new.state.cell) → (was ≡ false → cell_of old.state.cell ≡ None) → (was ≡ false → new.state ≡ old.state)
    → (cell_of old.state.cell ≡ None → old.state.net ≡ before) → (new.state.net ≡ saved_net new.state.cell) ⊎ (new.state.net ≡ before)
back_or before old new true reads empty same unset = inl (reads refl)
back_or before old new false reads empty same unset = inr (ap (λ (s : State). s.net) (same refl) ∙ unset (empty refl))

pending_backs : (before : Option NetData) (new : HostView) (fault : BackFault) → Backs before new (Err (pending_as fault))
pending_backs before new ba.NoCheckpoint = tt
pending_backs before new (ba.HostFault left) = tt
pending_backs before new (ba.KernelRefused k n left) = tt
pending_backs before new (ba.Damaged area) = tt
pending_backs before new (ba.HardwareDiffers names) = tt
pending_backs before new ba.OutOfMemory = tt

damaged_backs : (before : Option NetData) (new : HostView) (fault : BackFault) → Backs before new (Err (damaged_as fault))
damaged_backs before new ba.NoCheckpoint = tt
damaged_backs before new (ba.HostFault left) = tt
damaged_backs before new (ba.KernelRefused k n left) = tt
damaged_backs before new (ba.Damaged area) = tt
damaged_backs before new (ba.HardwareDiffers names) = tt
damaged_backs before new ba.OutOfMemory = tt

-- it wasn't
pub stopped_backs : (before : Option NetData) (new : HostView) (why : Missed) (fault : BackFault) → Backs before new (Err (stopped_as why fault))
stopped_backs before new missed.Failed fault = pending_backs before new fault
stopped_backs before new (missed.Refused k n) fault = pending_backs before new fault
stopped_backs before new missed.Damaged fault = damaged_backs before new fault
stopped_backs before new (missed.Differs found) fault = pending_backs before new fault
stopped_backs before new missed.OutOfMemory fault = tt

pub finished_backs : (before : Option NetData) (new : HostView) (result : Result Applied ApplyFault) → IfErr result (λ fault. fault ≡ ap_.InDoubt) → Backs before new result
finished_backs before new (Ok done) doubt = tt
finished_backs before new (Err fault) doubt = subst (λ (f : ApplyFault). Backs before new (Err f)) (sym doubt) tt

-- a dump failed before anything was changed
pub left_backs : (before : Option NetData) (new : HostView) (left : Left) → new.state.net ≡ before → Backs before new (Err (ap_.HostFault left))
left_backs before new NotBegun is = tt
left_backs before new RolledBack is = inr is
left_backs before new Pending is = tt

pub unsettled_backs : (tells : Type 0) (before : Option NetData) (old new : HostView) (fault : BackFault) → Fails tells old new fault → Backs before new (Err (apply_fault fault))
unsettled_backs tells before old new ba.NoCheckpoint fails = tt
unsettled_backs tells before old new (ba.HostFault NotBegun) fails = tt
unsettled_backs tells before old new (ba.HostFault RolledBack) fails = absurd fails
unsettled_backs tells before old new (ba.HostFault Pending) fails = tt
unsettled_backs tells before old new (ba.KernelRefused k n left) fails = tt
unsettled_backs tells before old new (ba.Damaged area) fails = tt
unsettled_backs tells before old new (ba.HardwareDiffers names) fails = tt
unsettled_backs tells before old new ba.OutOfMemory fails = tt
