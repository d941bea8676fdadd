-- What the answers of an apply say on every host, carried through its parts.
use Rattle.std.proofs.Common.{◌≡◌, ◌≢◌, ◌⊎◌, ◌≤◌, inl, inr, arith, ℕ, Bool, refl, sym, ap, ◌∙◌, subst, true, false, Option, Some, None, Result, Ok, Err}
use Rattle.std.specs.Prelude.{OnErr, IfErr, IsSome}
use Rattle.net_model.specs.NetData.{NetData}
use Rattle.document_model.specs.declared.Doc.{Doc}
use Rattle.document_model.specs.declared.Refused.{Refused}
use Rattle.host_core.specs.Faults.{Rose}
use Rattle.host_core.specs.HostView.{State, HostView, NoneRefused}
use Rattle.host_core.specs.Stops.{Steps, Stays, IsLawful}
use Rattle.host_core.proofs.lemmas.Counts.{rose_after, rose_before}
use Rattle.checkpoint_cell.specs.Cell.{Checkpoint, cell_of, saved_net, applying}
use Rattle.checkpoint_cell.specs.Settled.{standing, taken_back}
use Rattle.checkpoint_cell.specs.declared.Phase.{Phase}
use Rattle.merge_model.specs.MergedNet.{merge}
use Rattle.engine_model.specs.Machine.{Asked, asked, apply, apply_step, apply_fault, Outcome, stays}
use Rattle.engine_model.specs.Stations.{Any, Waits}
use Rattle.engine_model.specs.Refusals.{NoCallMade}
use Rattle.engine_model.specs.Failing.{IsUnbegun, Fails}
use Rattle.engine_model.specs.Faults.{HasTaken, HasOpen, IsDamaged, ApplySays, Verified, GaveSaved, GaveBack, StandsDamaged, Starves}
use Rattle.engine_model.specs.declared.answers.Left.{Left}
use Rattle.engine_model.specs.declared.answers.Left.TheVariants.{NotBegun, RolledBack, Pending}
use Rattle.engine_model.specs.declared.answers.Applied.{Applied}
use Rattle.engine_model.specs.declared.answers.ApplyOpts.{ApplyOpts}
use Rattle.engine_model.specs.declared.answers.BackFault.{BackFault}
use Rattle.engine_model.specs.declared.answers.BackFault.TheVariants as ba
use Rattle.engine_model.specs.declared.answers.ApplyFault.{ApplyFault}
use Rattle.engine_model.specs.declared.answers.ApplyFault.TheVariants as ap_
use Rattle.engine_model.proofs.lemmas.Backs.{recover_waits}
use Rattle.engine_model.proofs.lemmas.Refusals.{quiet_on, settled_on}
use Rattle.engine_model.proofs.lemmas.Failing.{open_same, open_on, fails_rose, fails_quiet}
use Rattle.engine_core.specs.declared.missed.Missed.{Missed}
use Rattle.engine_core.specs.declared.missed.Missed.TheVariants as missed
use Rattle.engine_core.specs.Saying.{Start, start_of, Follows, DamagedSince, IsOpen, Why, SettledBy, Said, taken_back_as, pending_as, damaged_as, stopped_as, IsGivenUp}

abbrev merged_with : NetData → Result NetData Refused
merged_with to = Ok to

pub follows_on : (start : Start) (old mid : HostView) → Follows start old → old.faults ≤ mid.faults → old.stops.moment ≤ mid.stops.moment → NoneRefused old.kernel mid.kernel → Follows start mid
follows_on start old mid follows faults moment quiet = record {
  faults = omega (arith, follows.faults);
  moment = omega (arith, follows.moment);
  quiet = quiet_on start.kernel old.kernel mid.kernel follows.quiet quiet;
}

-- ---- pairs that were left since

pub since : (t area : ℕ) (host : HostView) → IsLawful host.stops → host.stops.may_leave host.state → t ≤ host.stops.moment → IsDamaged area host.state → DamagedSince t area host
since t area host lawful reads le damaged = record { pair = host.state; left = lawful.counts_now t host.state le reads; damaged = damaged }

pub since_keeps : (step : State → State → Type 0) (t area : ℕ) (old new : HostView) → t ≤ old.stops.moment → Steps step old.stops new.stops → DamagedSince t area old → DamagedSince t area new
since_keeps step t area old new le steps had = record { pair = had.pair; left = steps.keeps t had.pair le had.left; damaged = had.damaged }

-- ---- a checkpoint that stands

-- that of a change which is being made
pub open_as : (host : HostView) (made deadline : ℕ) (from : NetData) → cell_of host.state.cell ≡ Some (applying made deadline from) → IsOpen host
open_as host made deadline from is = subst (λ (k : Option Checkpoint). HasOpen k) (sym is) (refl, refl)

open_some : (cell : Option Checkpoint) → HasOpen cell → IsSome cell
open_some None is = absurd is
open_some (Some checkpoint) is = refl

set_same : (old mid : HostView) → mid.state ≡ old.state → IsSome (cell_of old.state.cell) → IsSome (cell_of mid.state.cell)
set_same old mid same set = subst (λ (s : State). IsSome (cell_of s.cell)) (sym same) set

unless_none : (cell : Option Checkpoint) → (cell ≡ None → ⊥) → IsSome cell
unless_none None never = absurd (never refl)
unless_none (Some checkpoint) never = refl

never_none : (cell : Option Checkpoint) → IsSome cell → cell ≡ None → ⊥
never_none None some none = cc
never_none (Some checkpoint) some none = cc

-- ---- why a change misses

pub differs_why : (tells : Type 0) (doc : Doc) (start : Start) (from to found : NetData) (old mid : HostView) → Follows start old → merge from doc ≡ Ok to → (tells → saved_net old.state.cell ≡ Some from) → (tells → IsOpen old)
    → (tells → mid.state ≡ old.state) → NoneRefused old.kernel mid.kernel → (found ≡ to → ⊥) → Why tells doc start mid (missed.Differs found)
differs_why tells doc start from to found old mid follows merges saved set same quiet differs = (
  quiet_on start.kernel old.kernel mid.kernel follows.quiet quiet,
  λ told. (
    record {
      saved = from;
      is_saved = ap (λ (s : State). saved_net s.cell) (same told) ∙ saved told;
      other = λ is. let e : merged_with found ≡ merged_with to = sym is ∙ merges in differs (cc);
    },
    open_same old mid (same told) (set told),
  ),
)

-- no network was there to be compared
pub damaged_why : (tells : Type 0) (doc : Doc) (start : Start) (old mid : HostView) → Follows start old → old.stops.moment ≤ mid.stops.moment → (tells → IsOpen old) → (tells → mid.state ≡ old.state) → NoneRefused old.kernel mid.kernel
    → IsLawful mid.stops → (tells → mid.stops.may_leave mid.state) → (tells → old.state.net ≡ None) → Why tells doc start mid missed.Damaged
damaged_why tells doc start old mid follows later set same quiet lawful reads none = (
  quiet_on start.kernel old.kernel mid.kernel follows.quiet quiet,
  λ told.
      let bare : mid.state.net ≡ None = ap (λ (s : State). s.net) (same told) ∙ none told in (
        since start.moment 0 mid lawful (reads told) (omega (arith, follows.moment, later)) (inl (refl, bare)),
        bare,
        open_same old mid (same told) (set told),
      ),
)

-- ---- where the change is taken back

-- what still stands is damaged, with the checkpoint by which to take it back
still_damaged : (tells : Type 0) (area now : ℕ) (start : Start) (old new : HostView) → new.state ≡ old.state → IsSome (cell_of old.state.cell) → IsDamaged area old.state → StandsDamaged tells area now start.state start.kernel new
still_damaged tells area now start old new same set damaged = record {
  damaged = subst (λ (s : State). IsDamaged area s) (sym same) damaged;
  held = inr (set_same old new same set);
}

-- no kernel call was made behind it
pub left_settled : (tells : Type 0) (now : ℕ) (start : Start) (old new : HostView) → SettledBy tells now start old → NoCallMade old.kernel new.kernel → SettledBy tells now start new
left_settled tells now start old new settled unmade = settled_on tells now start.state start.kernel old.kernel new.kernel settled unmade

-- what was to be taken back was, by calls, or no checkpoint stood
abbrev pub Returned : HostView → HostView → Type 0
Returned old new = GaveSaved new ⊎ ((cell_of old.state.cell ≡ None) × NoCallMade old.kernel new.kernel)

pub returned : (tells : Type 0) (old new : HostView) (was : Bool) → (tells → was ≡ true → GaveSaved new) → (tells → was ≡ false → cell_of old.state.cell ≡ None) → (was ≡ false → IsUnbegun tells old new) → tells → Returned old new
returned tells old new true gave empty idle told = inl (gave told refl)
returned tells old new false gave empty idle told = inr (empty told refl, (idle refl).unmade)

-- with a checkpoint, by calls
gave_of : (tells : Type 0) (old new : HostView) → IsOpen old → Returned old new → GaveSaved new
gave_of tells old new set (inl gave) = gave
gave_of tells old new set (inr none) = absurd (never_none (cell_of old.state.cell) (open_some (cell_of old.state.cell) set) none.0)

back_of : (tells : Type 0) (now : ℕ) (start : Start) (old new : HostView) → (cell_of old.state.cell ≡ None → SettledBy tells now start old) → Returned old new → GaveBack tells now start.state start.kernel new
back_of tells now start old new settled (inl gave) = inl gave
back_of tells now start old new settled (inr none) = inr (left_settled tells now start old new (settled none.0) none.1)

module _ (tells : Type 0) (doc : Doc) (opts : ApplyOpts) (made : ℕ) (start : Start) (old new : HostView) (faults : start.faults ≤ old.faults) (moment : start.moment ≤ old.stops.moment) (bare : tells → old.state.net ≡ None → new.state ≡ old.state) where
  -- it was
  pub taken_says : (why : Missed) → Why tells doc start old why → ((found : NetData) → why ≡ missed.Differs found → opts.no_verify ≡ false) → old.faults ≤ new.faults → Steps Any old.stops new.stops
      → (tells → cell_of new.state.cell ≡ None) → (tells → saved_net new.state.cell ≡ saved_net old.state.cell) → (tells → Returned old new) → (tells → cell_of old.state.cell ≡ None → SettledBy tells made start old)
      → NoneRefused old.kernel new.kernel → Said tells (asked doc opts made) start new (Err (taken_back_as why))
  taken_says missed.Failed is compared later steps none saved back settled quiet = (rose_before start.faults old.faults new.faults is.1 later, none, λ same told. back_of tells made start old new (settled told) (back told))
  taken_says (missed.Refused k n) is compared later steps none saved back settled quiet = (
    none,
    (λ same. cc),
    (λ same told. gave_of tells old new (is.2 told) (back told)),
    (λ same. let e : RolledBack ≡ Pending = same in absurd (cc)),
  )
  taken_says missed.Damaged is compared later steps none saved back settled quiet = λ told.
      let why = is.1 told in
      (since_keeps Any start.moment 0 old new moment steps why.0, still_damaged tells 0 made start old new (bare told why.1) (open_some (cell_of old.state.cell) why.2) (inl (refl, why.1)))
  taken_says (missed.Differs found) is compared later steps none saved back settled quiet = (
    refl,
    compared found refl,
    none,
    (λ told. gave_of tells old new (is.1 told).1 (back told)),
    (λ told. let o = (is.1 told).0 in record { saved = o.saved; is_saved = saved told ∙ o.is_saved; other = o.other }),
  )
  taken_says missed.OutOfMemory is compared later steps none saved back settled quiet =
      inr (quiet_on start.kernel old.kernel new.kernel is.0 quiet, inr (λ told. back_of tells made start old new (settled told) (back told)))

  module _ (lawful : IsLawful old.stops) (reads : tells → old.stops.may_leave old.state) where
    -- the host failed before it, or the change was being made
    abbrev FailedOrOpen : Type 0
    FailedOrOpen = (NoneRefused start.kernel old.kernel × Rose start.faults old.faults) ⊎ (tells → IsOpen old)

    starved_behind : old.faults ≤ new.faults → FailedOrOpen → Fails tells old new ba.OutOfMemory → Starves tells made start.faults start.state start.kernel new
    starved_behind later (inl failed) fails = inr (quiet_on start.kernel old.kernel new.kernel failed.0 fails.0, inl (rose_before start.faults old.faults new.faults failed.1 later))
    starved_behind later (inr being) fails = inl (λ told. open_on old new (fails.1 told) (being told))

    pending_says : (fault : BackFault) → Fails tells old new fault → (tells → cell_of old.state.cell ≡ None → fault ≡ ba.HostFault NotBegun) → old.faults ≤ new.faults → FailedOrOpen
        → Said tells (asked doc opts made) start new (Err (pending_as fault))
    pending_says ba.NoCheckpoint fails unset later why = absurd fails
    pending_says (ba.HostFault left) fails unset later why = (rose_after start.faults old.faults new.faults faults (fails_rose tells old new left fails), tt, λ is. let e : Pending ≡ RolledBack = is in absurd (cc))
    pending_says (ba.KernelRefused k n left) fails unset later why = (tt, (λ is. cc), (λ is. let e : Pending ≡ RolledBack = is in absurd (cc)), λ is. fails.3)
    pending_says (ba.Damaged area) fails unset later why = λ told.
        let there : IsSome (cell_of old.state.cell) = unless_none (cell_of old.state.cell) (λ none. let e : ba.Damaged area ≡ ba.HostFault NotBegun = unset told none in cc) in
        let had = fails.1 told in (
          since_keeps Stays start.moment area old new moment fails.0.stops (since start.moment area old lawful (reads told) moment had),
          still_damaged tells area made start old new (fails.0.same told) there had,
        )
    pending_says (ba.HardwareDiffers names) fails unset later why = fails.1
    pending_says ba.OutOfMemory fails unset later why = starved_behind later why fails

    bare_says : Steps Any old.stops new.stops → tells → DamagedSince start.moment 0 old × (old.state.net ≡ None) × IsOpen old → DamagedSince start.moment 0 new × StandsDamaged tells 0 made start.state start.kernel new
    bare_says steps told had = (since_keeps Any start.moment 0 old new moment steps had.0, still_damaged tells 0 made start old new (bare told had.1) (open_some (cell_of old.state.cell) had.2) (inl (refl, had.1)))

    damaged_says : (fault : BackFault) → Steps Any old.stops new.stops → Fails tells old new fault → (tells → DamagedSince start.moment 0 old × (old.state.net ≡ None) × IsOpen old) → Said tells (asked doc opts made) start new (Err (damaged_as fault))
    damaged_says ba.NoCheckpoint steps fails had = λ told. bare_says steps told (had told)
    damaged_says (ba.HostFault left) steps fails had = λ told. bare_says steps told (had told)
    damaged_says (ba.KernelRefused k n left) steps fails had = λ told. bare_says steps told (had told)
    damaged_says (ba.Damaged area) steps fails had = λ told. bare_says steps told (had told)
    damaged_says (ba.HardwareDiffers names) steps fails had = λ told. bare_says steps told (had told)
    damaged_says ba.OutOfMemory steps fails had = inl (λ told. open_on old new (fails.1 told) (had told).2)

    -- a change that was being made, where the restoring tells another fault than that it had nothing to take back
    being_made : (fault : BackFault) → (fault ≡ ba.HostFault NotBegun → ⊥) → (cell_of old.state.cell ≡ None → fault ≡ ba.HostFault NotBegun) → (cell_of old.state.cell ≡ None) ⊎ IsOpen old → IsOpen old
    being_made fault other unset (inl none) = absurd (other (unset none))
    being_made fault other unset (inr being) = being

    -- memory ran out before it
    starved_says : NoneRefused start.kernel old.kernel → (tells → (cell_of old.state.cell ≡ None) ⊎ IsOpen old) → (fault : BackFault) → Fails tells old new fault
        → (tells → cell_of old.state.cell ≡ None → fault ≡ ba.HostFault NotBegun) → Starves tells made start.faults start.state start.kernel new
    starved_says quiet was ba.NoCheckpoint fails unset = absurd fails
    starved_says quiet was (ba.HostFault left) fails unset =
        inr (quiet_on start.kernel old.kernel new.kernel quiet (fails_quiet tells old new left fails), inl (rose_after start.faults old.faults new.faults faults (fails_rose tells old new left fails)))
    starved_says quiet was (ba.KernelRefused k n left) fails unset = inl fails.3
    starved_says quiet was (ba.Damaged area) fails unset = inl (λ told. open_same old new (fails.0.same told) (being_made (ba.Damaged area) (λ is. cc) (unset told) (was told)))
    starved_says quiet was (ba.HardwareDiffers names) fails unset = inl (λ told. open_same old new (fails.0.same told) (being_made (ba.HardwareDiffers names) (λ is. cc) (unset told) (was told)))
    starved_says quiet was ba.OutOfMemory fails unset = inl (λ told. open_on old new (fails.1 told) (being_made ba.OutOfMemory (λ is. cc) (unset told) (was told)))

    -- it wasn't
    pub stopped_says : (why : Missed) (fault : BackFault) → Why tells doc start old why → Steps Any old.stops new.stops → Fails tells old new fault → (tells → cell_of old.state.cell ≡ None → fault ≡ ba.HostFault NotBegun)
        → old.faults ≤ new.faults → Said tells (asked doc opts made) start new (Err (stopped_as why fault))
    stopped_says missed.Failed fault is steps fails unset later = pending_says fault fails unset later (inl is)
    stopped_says (missed.Refused k n) fault is steps fails unset later = pending_says fault fails unset later (inr is.2)
    stopped_says missed.Damaged fault is steps fails unset later = damaged_says fault steps fails is.1
    stopped_says (missed.Differs found) fault is steps fails unset later = pending_says fault fails unset later (inr (λ told. (is.1 told).1))
    stopped_says missed.OutOfMemory fault is steps fails unset later = starved_says is.0 is.1 fault fails unset

-- none of it says that nothing was begun, nor that the end is in doubt
pub taken_begun : (why : Missed) → IsGivenUp (taken_back_as why)
taken_begun missed.Failed = tt
taken_begun (missed.Refused k n) = tt
taken_begun missed.Damaged = tt
taken_begun (missed.Differs found) = tt
taken_begun missed.OutOfMemory = tt

pending_begun : (fault : BackFault) → IsGivenUp (pending_as fault)
pending_begun ba.NoCheckpoint = tt
pending_begun (ba.HostFault left) = tt
pending_begun (ba.KernelRefused k n left) = tt
pending_begun (ba.Damaged area) = tt
pending_begun (ba.HardwareDiffers names) = tt
pending_begun ba.OutOfMemory = tt

damaged_begun : (fault : BackFault) → IsGivenUp (damaged_as fault)
damaged_begun ba.NoCheckpoint = tt
damaged_begun (ba.HostFault left) = tt
damaged_begun (ba.KernelRefused k n left) = tt
damaged_begun (ba.Damaged area) = tt
damaged_begun (ba.HardwareDiffers names) = tt
damaged_begun ba.OutOfMemory = tt

pub stopped_begun : (why : Missed) (fault : BackFault) → IsGivenUp (stopped_as why fault)
stopped_begun missed.Failed fault = pending_begun fault
stopped_begun (missed.Refused k n) fault = pending_begun fault
stopped_begun missed.Damaged fault = damaged_begun fault
stopped_begun (missed.Differs found) fault = pending_begun fault
stopped_begun missed.OutOfMemory fault = tt

-- ---- where the change is made

module _ (tells : Type 0) (doc : Doc) (opts : ApplyOpts) (made : ℕ) (start : Start) (from to : NetData) (mid new : HostView) (merges : merge from doc ≡ Ok to) (le : start.faults ≤ mid.faults)
    (verified : tells → opts.no_verify ≡ false → mid.fresh ≡ Some to) (fresh : tells → new.fresh ≡ mid.fresh) (saved : tells → saved_net new.state.cell ≡ Some from) where
  -- what was dumped last is what was wanted
  compared_as : tells → opts.no_verify ≡ false → Verified (asked doc opts made) new
  compared_as told wanted = record { saved = from; fresh = to; is_saved = saved told; is_fresh = fresh told ∙ verified told wanted; merges = merges }

  pub finished_says : (result : Result Applied ApplyFault) → IfErr result (λ fault. fault ≡ ap_.InDoubt) → OnErr result (Rose mid.faults new.faults) → OnErr result (opts.no_commit ≡ false) → Said tells (asked doc opts made) start new result
  finished_says (Ok applied) doubt rose ended = compared_as
  finished_says (Err fault) doubt rose ended = subst (λ (f : ApplyFault). Said tells (asked doc opts made) start new (Err f)) (sym doubt) (rose_after start.faults mid.faults new.faults le rose, ended, compared_as)

pub finished_begun : (result : Result Applied ApplyFault) → IfErr result (λ fault. fault ≡ ap_.InDoubt) → IfErr result (λ fault. IsGivenUp fault ⊎ (fault ≡ ap_.InDoubt))
finished_begun (Ok applied) doubt = tt
finished_begun (Err fault) doubt = inr doubt

-- ---- where it isn't begun

pub left_says : (tells : Type 0) (a : Asked) (start : Start) (old new : HostView) (left : Left) → (left ≡ Pending → ⊥) → Rose start.faults new.faults → (tells → new.state ≡ old.state) → (left ≡ NotBegun → tells → old.state ≡ start.state)
    → (tells → cell_of old.state.cell ≡ None) → SettledBy tells a.now start new → Said tells a start new (Err (ap_.HostFault left))
left_says tells a start old new NotBegun side rose same was none settled = (rose, (λ told. same told ∙ was refl told), λ is. let e : NotBegun ≡ RolledBack = is in absurd (cc))
left_says tells a start old new RolledBack side rose same was none settled = (rose, (λ told. ap (λ (s : State). cell_of s.cell) (same told) ∙ none told), λ is told. inr settled)
left_says tells a start old new Pending side rose same was none settled = absurd (side refl)

-- memory ran out before anything was changed
pub starved_before : (tells : Type 0) (now : ℕ) (start : Start) (new : HostView) → NoneRefused start.kernel new.kernel → SettledBy tells now start new → Starves tells now start.faults start.state start.kernel new
starved_before tells now start new quiet settled = inr (quiet, inr (λ told. inr settled))

-- ---- of the whole

module _ (tells : Type 0) (a : Asked) (old new : HostView) where
  pub said_says : (result : Result Applied ApplyFault) → Said tells a (start_of old) new result → ApplySays tells a old new result
  said_says (Ok done) said = said
  said_says (Err (ap_.Pending until)) said = absurd said
  said_says (Err (ap_.MergeRefused r)) said = said
  said_says (Err (ap_.HostFault NotBegun)) said = said
  said_says (Err (ap_.HostFault RolledBack)) said = said
  said_says (Err (ap_.HostFault Pending)) said = said
  said_says (Err ap_.InDoubt) said = said
  said_says (Err (ap_.KernelRefused k n NotBegun)) said = said
  said_says (Err (ap_.KernelRefused k n RolledBack)) said = said
  said_says (Err (ap_.KernelRefused k n Pending)) said = said
  said_says (Err (ap_.NotVerified found left)) said = said
  said_says (Err (ap_.Damaged area)) said = λ told. let had = (said told).0 in (record { pair = had.pair; left = had.left; damaged = had.damaged }, (said told).1)
  said_says (Err (ap_.HardwareDiffers names)) said = said
  said_says (Err ap_.OutOfMemory) said = said

  abbrev Made : Type 0
  Made = Outcome Applied ApplyFault

  -- a change waits, and its time isn't up
  pub waits_says : (until : ℕ) → (tells → (waits : Waits a.now (cell_of old.state.cell)) × (waits.checkpoint.deadline ≡ until)) → (tells → new.state ≡ old.state) → ApplySays tells a old new (Err (ap_.Pending until))
  waits_says until waiting same = λ told.
      let w = waiting told in
      let c = w.0.checkpoint in
      let taken : taken_back a.now c.phase c.made c.deadline ≡ false = ap (λ (p : Phase). taken_back a.now p c.made c.deadline) w.0.waiting ∙ w.0.in_time in
      let is : apply a (standing old.state) ≡ stays (standing old.state) (Err (ap_.Pending c.deadline)) = ap (apply_step a) (recover_waits a.now old.state c w.0.is taken) in
      record {
        answer = ap (λ (o : Made). o.answer) is ∙ (λ i. Err (ap_.Pending (w.1 i)));
        after = ap standing (same told) ∙ sym (ap (λ (o : Made). o.after) is);
      }

  -- the settling failed
  pub unsettled_says : IsLawful old.stops → (tells → old.stops.may_leave old.state) → (fault : BackFault) → Fails tells old new fault → (fault ≡ ba.OutOfMemory → tells → HasTaken a.now (cell_of old.state.cell)) → ApplySays tells a old new (Err (apply_fault fault))
  unsettled_says lawful reads ba.NoCheckpoint fails taken = absurd fails
  unsettled_says lawful reads (ba.HostFault NotBegun) fails taken = (fails.0, fails.1.same, λ is. let e : NotBegun ≡ RolledBack = is in absurd (cc))
  unsettled_says lawful reads (ba.HostFault RolledBack) fails taken = absurd fails
  unsettled_says lawful reads (ba.HostFault Pending) fails taken = (fails.0, tt, λ is. let e : Pending ≡ RolledBack = is in absurd (cc))
  unsettled_says lawful reads (ba.KernelRefused k n NotBegun) fails taken = let e : NotBegun ≡ Pending = fails.0 in absurd (cc)
  unsettled_says lawful reads (ba.KernelRefused k n RolledBack) fails taken = let e : RolledBack ≡ Pending = fails.0 in absurd (cc)
  unsettled_says lawful reads (ba.KernelRefused k n Pending) fails taken = (tt, (λ is. cc), (λ is. let e : Pending ≡ RolledBack = is in absurd (cc)), λ is. fails.3)
  unsettled_says lawful reads (ba.Damaged area) fails taken = λ told.
      let had = since_keeps Stays old.stops.moment area old new (omega arith) fails.0.stops (since old.stops.moment area old lawful (reads told) (omega arith) (fails.1 told)) in (
        record { pair = had.pair; left = had.left; damaged = had.damaged },
        record { damaged = subst (λ (s : State). IsDamaged area s) (sym (fails.0.same told)) (fails.1 told); held = inl (inr fails.0.unmade) },
      )
  unsettled_says lawful reads (ba.HardwareDiffers names) fails taken = fails.1
  unsettled_says lawful reads ba.OutOfMemory fails taken = inr (fails.0, inr (λ told. inr (inl (taken refl))))

  -- what it says of a fault
  pub said_left : (result : Result Applied ApplyFault) (left : Left) → result ≡ Err (ap_.HostFault left) → ApplySays tells a old new result → ApplySays tells a old new (Err (ap_.HostFault left))
  said_left result left is says = subst (λ (r : Result Applied ApplyFault). ApplySays tells a old new r) is says

  pub said_doubt : (result : Result Applied ApplyFault) → result ≡ Err ap_.InDoubt → ApplySays tells a old new result → Rose old.faults new.faults
  said_doubt result is says = (subst (λ (r : Result Applied ApplyFault). ApplySays tells a old new r) is says).0

-- ---- of an earlier moment, too

-- where a command began, counted from this moment
abbrev pub start_since : ℕ → HostView → Start
start_since t host = record { state = host.state; faults = host.faults; kernel = host.kernel; moment = t }

-- what is damaged was left since the beginning
pub said_damaged : (tells : Type 0) (a : Asked) (start : Start) (new : HostView) (result : Result Applied ApplyFault) (area : ℕ) → result ≡ Err (ap_.Damaged area) → Said tells a start new result → tells → DamagedSince start.moment area new
said_damaged tells a start new result area is said = λ told. (subst (λ (r : Result Applied ApplyFault). Said tells a start new r) is said told).0

abbrev failed_as : ApplyFault → Result Applied ApplyFault
failed_as fault = Err fault

same_fault : (a b : ApplyFault) → failed_as a ≡ failed_as b → a ≡ b
same_fault a b is = cc

module _ (tells : Type 0) (told : tells) (t area : ℕ) (old new : HostView) (lawful : IsLawful old.stops) (here : old.stops.may_leave old.state) (le : t ≤ old.stops.moment) where
  settling_damaged : (fault : BackFault) → apply_fault fault ≡ ap_.Damaged area → Fails tells old new fault → DamagedSince t area new
  settling_damaged ba.NoCheckpoint is fails = absurd fails
  settling_damaged (ba.HostFault left) is fails = let e : ap_.HostFault left ≡ ap_.Damaged area = is in absurd (cc)
  settling_damaged (ba.KernelRefused k n left) is fails = let e : ap_.KernelRefused k n left ≡ ap_.Damaged area = is in absurd (cc)
  settling_damaged (ba.Damaged found) is fails =
      let e : ap_.Damaged found ≡ ap_.Damaged area = is in
      let same : found ≡ area = cc in
      since_keeps Stays t area old new le fails.0.stops (since t area old lawful here le (subst (λ (n : ℕ). IsDamaged n old.state) same (fails.1 told)))
  settling_damaged (ba.HardwareDiffers names) is fails = let e : ap_.HardwareDiffers names ≡ ap_.Damaged area = is in absurd (cc)
  settling_damaged ba.OutOfMemory is fails = let e : ap_.OutOfMemory ≡ ap_.Damaged area = is in absurd (cc)

  -- what the settling found damaged was left since that moment
  pub unsettled_damaged : (answer : ApplyFault) (fault : BackFault) → answer ≡ apply_fault fault → failed_as answer ≡ failed_as (ap_.Damaged area) → Fails tells old new fault → DamagedSince t area new
  unsettled_damaged answer fault as_is is = settling_damaged fault (sym as_is ∙ same_fault answer (ap_.Damaged area) is)
