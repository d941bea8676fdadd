-- What an apply says from the beginning of its command, where a recovery that left no checkpoint and a dump came before it:
-- it is what an apply from that beginning says.
use Rattle.std.proofs.Common.{◌≡◌, ◌≢◌, ◌⊎◌, ◌≤◌, ◌∙◌, inl, inr, refl, sym, ap, subst, arith, ℕ, Bool, true, false, List, Option, Some, None, Result, Ok, Err}
use Rattle.std.specs.Prelude.{if◌then◌else◌, IsSome}
use Rattle.net_model.specs.NetData.{NetData}
use Rattle.document_model.specs.declared.Refused.{Refused}
use Rattle.host_core.specs.Faults.{Rose, RoseTwice}
use Rattle.host_core.specs.HostView.{State, HostView, NoneRefused}
use Rattle.host_core.specs.Stops.{Steps, Stays, IsLawful}
use Rattle.host_core.proofs.lemmas.Counts.{rose_after, twice_after}
use Rattle.checkpoint_cell.specs.Cell.{Checkpoint, cell_of, applying}
use Rattle.checkpoint_cell.specs.Settled.{Standing, standing, settled, settled_from, restored_to}
use Rattle.merge_model.specs.MergedNet.{merge}
use Rattle.engine_model.specs.Machine.{Outcome, Asked, apply, apply_step, apply_settled, change, merged_as, deadline_of, waiting, recover, recover_cell}
use Rattle.engine_model.specs.Sound.{Fit, Sound}
use Rattle.engine_model.specs.Answers.{IsClear}
use Rattle.engine_model.specs.Stations.{Stands, Near, Within, Only, Before, Settled, Either, Kept, Entry, entry_of}
use Rattle.engine_model.specs.Exit.{Unsettled, Marked, OnWay, InDoubt as IsInDoubt, ApplyExit}
use Rattle.engine_model.specs.Refusals.{NoCallMade, ApplyCounts}
use Rattle.engine_model.specs.Faults.{IsOutcome, IsMade, LeftSays, HasTaken, HadDamaged, GaveBack, SettlesOnly, StandsDamaged, Starves, ApplySays, ApplyExact, ApplyAnswers, Tries, FailsTwice, Dumps, Backs}
use Rattle.engine_model.specs.declared.Left.{Left}
use Rattle.engine_model.specs.declared.Left.TheVariants.{NotBegun, RolledBack, Pending}
use Rattle.engine_model.specs.declared.Applied.{Applied}
use Rattle.engine_model.specs.declared.Recovered.{Recovered}
use Rattle.engine_model.specs.declared.Recovered.TheVariants.{Nothing, Waiting as Waits, Restored}
use Rattle.engine_model.specs.declared.BackFault.{BackFault}
use Rattle.engine_model.specs.declared.ApplyFault.{ApplyFault}
use Rattle.engine_model.specs.declared.ApplyFault.TheVariants as fa
use Rattle.engine_model.proofs.lemmas.Leading.{near_wider, near_on, kept_on, kept_wider}
use Rattle.engine_model.proofs.lemmas.Refusals.{quiet_on, unmade_quiet, unmade_on, refused_after, once_after, few_after}
use Rattle.engine_model.proofs.lemmas.Backs.{settles}
use Rattle.top_model.specs.Said.{said_applied}
use Rattle.top_model.specs.Machine.{told, apply_cause}
use Rattle.top_model.specs.Counts.{PolicyCounted}
use Rattle.top_model.specs.Undisturbed.{LeavesAlone}
use Rattle.top_model.proofs.lemmas.Settling.{change_waits}

abbrev Made : Type 0
Made = Outcome Applied ApplyFault

abbrev failed : ApplyFault → Result Applied ApplyFault
failed fault = Err fault

-- the answer of the command: where a change was taken back before, that nothing was begun is told as that
abbrev pub told_as : Left → Result Applied ApplyFault → Result Applied ApplyFault
told_as back (Err (fa.HostFault NotBegun)) = Err (fa.HostFault back)
told_as back result = result

-- ---- by the machine

module _ (a : Asked) where
  begins_there : (e : Standing) → e.cell ≡ None → apply a e ≡ change a e e.net
  begins_there e none = ap (λ (c : Option Checkpoint). apply_step a (recover_cell a.now e c)) none

  settled_change : (e : Standing) (r : Result Recovered BackFault) (done : Recovered) → r ≡ Ok done → IsClear done → apply_settled a e r ≡ change a e e.net
  settled_change e r Nothing is clear = ap (apply_settled a e) is
  settled_change e r (Waits deadline) is clear = absurd clear
  settled_change e r Restored is clear = ap (apply_settled a e) is

  -- it is the apply from what stands after its settling
  pub from_settled : (e mid : Standing) (done : Recovered) → (recover a.now e).answer ≡ Ok done → IsClear done → mid ≡ (recover a.now e).after → mid.cell ≡ None → apply a e ≡ apply a mid
  from_settled e mid done is clear after none =
      settled_change (recover a.now e).after (recover a.now e).answer done is clear ∙ ap (λ (x : Standing). change a x x.net) (sym after) ∙ sym (begins_there mid none)

  -- without a checkpoint none waits
  pub none_waits : (e : Standing) (until : ℕ) → e.cell ≡ None → (apply a e).answer ≡ Err (fa.Pending until) → ⊥
  none_waits e until none is = change_waits a until e e.net (ap (λ (o : Made). o.answer) (sym (begins_there e none)) ∙ is)

  abbrev made_as : NetData → NetData → Bool → Made
  made_as from to b = if b then record { answer = Ok (record { deadline = Some (deadline_of a) }); after = record { net = Some to; cell = Some (waiting a from) } }
      else record { answer = Ok (record { deadline = None }); after = restored_to to }

  made_damaged : (from to : NetData) (area : ℕ) (b : Bool) → (made_as from to b).answer ≡ failed (fa.Damaged area) → ⊥
  made_damaged from to area true is = cc
  made_damaged from to area false is = cc

  merged_damaged : (from : NetData) (m : Result NetData Refused) (area : ℕ) → (merged_as a from m).answer ≡ failed (fa.Damaged area) → ⊥
  merged_damaged from (Ok to) area is = made_damaged from to area a.opts.no_commit is
  merged_damaged from (Err broken) area is = let e : failed (fa.MergeRefused broken) ≡ failed (fa.Damaged area) = is in cc

  -- where a network alone stands nothing is damaged
  pub none_damaged : (e : Standing) (from : NetData) (area : ℕ) → e ≡ restored_to from → (apply a e).answer ≡ failed (fa.Damaged area) → ⊥
  none_damaged e from area stood is =
      merged_damaged from (merge from a.doc) area (ap (λ (x : Standing). (change a x x.net).answer) (sym stood) ∙ ap (λ (o : Made). o.answer) (sym (begins_there e (ap (λ (x : Standing). x.cell) stood))) ∙ is)

  made_differs : (from to : NetData) (names : List (List ℕ)) (b : Bool) → (made_as from to b).answer ≡ failed (fa.HardwareDiffers names) → ⊥
  made_differs from to names true is = cc
  made_differs from to names false is = cc

  merged_differs : (from : NetData) (m : Result NetData Refused) (names : List (List ℕ)) → (merged_as a from m).answer ≡ failed (fa.HardwareDiffers names) → ⊥
  merged_differs from (Ok to) names is = made_differs from to names a.opts.no_commit is
  merged_differs from (Err broken) names is = let e : failed (fa.MergeRefused broken) ≡ failed (fa.HardwareDiffers names) = is in cc

  -- nor are its devices others
  pub none_differs : (e : Standing) (from : NetData) (names : List (List ℕ)) → e ≡ restored_to from → (apply a e).answer ≡ failed (fa.HardwareDiffers names) → ⊥
  none_differs e from names stood is =
      merged_differs from (merge from a.doc) names (ap (λ (x : Standing). (change a x x.net).answer) (sym stood) ∙ ap (λ (o : Made). o.answer) (sym (begins_there e (ap (λ (x : Standing). x.cell) stood))) ∙ is)

-- ---- counts

-- ---- what was left before it

-- where no checkpoint stood and nothing changed, each pair that was left since has the network that reads
pub first_spared : (from to : NetData) (old mid : HostView) → IsLawful old.stops → old.stops.may_leave old.state → Sound old → standing old.state ≡ restored_to from → Steps Stays old.stops mid.stops → LeavesAlone from to old mid
first_spared from to old mid lawful here sound stood steps s left = (from, net_is, record { links = λ name calm. refl; routes = λ route calm has also. has })
  where
    first : (r : State) → old.stops.may_leave r → r.net ≡ Some from
    first r may = elim sound.one [
      | inl (net, all) ↦ all r may ∙ sym (all old.state here) ∙ ap (λ (x : Standing). x.net) stood
      | inr (saved, all) ↦
          let set = all old.state here in
          let e : None ≡ Some (applying set.0 set.1 saved) = sym (ap (λ (x : Standing). x.cell) stood) ∙ set.2 in
          absurd (cc)
    ]

    net_is : s.net ≡ Some from
    net_is = elim (steps.since old.stops.moment s (omega arith) left) [
      | inl was ↦ first s (lawful.only_now s was)
      | inr (r, may, same) ↦ ap (λ (x : State). x.net) same ∙ first r may
    ]

-- ---- on every host

module _ (tells : Type 0) (a : Asked) (back : Left) (old mid new : HostView) (side : back ≢ Pending) (faults : old.faults ≤ mid.faults) (quiet : NoneRefused old.kernel mid.kernel)
    (none : tells → (standing mid.state).cell ≡ None) (same : back ≡ NotBegun → tells → mid.state ≡ old.state) where
  rose : Rose mid.faults new.faults → Rose old.faults new.faults
  rose risen = rose_after old.faults mid.faults new.faults faults risen

  unbegun : (left : Left) → left ≡ back → (tells → new.state ≡ mid.state) → LeftSays tells old new left
  unbegun NotBegun is stays = λ told. stays told ∙ same (sym is) told
  unbegun RolledBack is stays = λ told. ap (λ (s : State). cell_of s.cell) (stays told) ∙ none told
  unbegun Pending is stays = tt

  refused_left : (left : Left) → left ≢ NotBegun → LeftSays tells mid new left → LeftSays tells old new left
  refused_left NotBegun other says = absurd (other refl)
  refused_left RolledBack other says = says
  refused_left Pending other says = tt

  -- where nothing was taken back before, no call was made before; else a change was to be taken back
  module _ (unmade : back ≡ NotBegun → NoCallMade old.kernel mid.kernel) (taken : back ≡ RolledBack → tells → HasTaken a.now (standing old.state).cell) where
    settled_by : (left : Left) → left ≡ back → NoCallMade mid.kernel new.kernel → SettlesOnly tells a.now old.state old.kernel new.kernel
    settled_by NotBegun is made = inr (unmade_on old.kernel mid.kernel new.kernel (unmade (sym is)) made)
    settled_by RolledBack is made = inl (taken (sym is))
    settled_by Pending is made = absurd (side (sym is))

    settled_first : SettlesOnly tells a.now mid.state mid.kernel new.kernel → SettlesOnly tells a.now old.state old.kernel new.kernel
    settled_first (inl has) = inl (λ told. absurd (subst (λ (c : Option Checkpoint). HasTaken a.now c) (none told) (has told)))
    settled_first (inr made) = settled_by back refl made

    gave_first : GaveBack tells a.now mid.state mid.kernel new → GaveBack tells a.now old.state old.kernel new
    gave_first (inl saved) = inl saved
    gave_first (inr only) = inr (settled_first only)

    -- nothing was begun behind what was taken back
    gave_before : back ≡ RolledBack → tells → GaveBack tells a.now old.state old.kernel new
    gave_before is told = inr (inl (taken is))

    held_first : SettlesOnly tells a.now mid.state mid.kernel new.kernel ⊎ IsSome (standing new.state).cell → SettlesOnly tells a.now old.state old.kernel new.kernel ⊎ IsSome (standing new.state).cell
    held_first (inl only) = inl (settled_first only)
    held_first (inr some) = inr some

    stands_first : (area : ℕ) → StandsDamaged tells area a.now mid.state mid.kernel new → StandsDamaged tells area a.now old.state old.kernel new
    stands_first area is = record { damaged = is.damaged; held = held_first is.held }

    back_first : Rose mid.faults new.faults ⊎ (tells → GaveBack tells a.now mid.state mid.kernel new) → Rose old.faults new.faults ⊎ (tells → GaveBack tells a.now old.state old.kernel new)
    back_first (inl risen) = inl (rose risen)
    back_first (inr gave) = inr (λ told. gave_first (gave told))

    starved : Starves tells a.now mid.faults mid.state mid.kernel new → Starves tells a.now old.faults old.state old.kernel new
    starved (inl set) = inl set
    starved (inr (calm, how)) = inr (quiet_on old.kernel mid.kernel new.kernel quiet calm, back_first how)

    pub says : (result : Result Applied ApplyFault) → ApplySays tells a mid new result → ((area : ℕ) → result ≡ Err (fa.Damaged area) → tells → HadDamaged area old new) → ApplySays tells a old new (told_as back result)
    says (Ok done) is damaged = is
    says (Err (fa.Pending until)) is damaged = λ told. absurd (none_waits a (standing mid.state) until (none told) (is told).answer)
    says (Err (fa.MergeRefused refused)) is damaged = (settled_first is.0, is.1)
    says (Err (fa.HostFault NotBegun)) is damaged = (rose is.0, unbegun back refl is.1, gave_before)
    says (Err (fa.HostFault RolledBack)) is damaged = (rose is.0, is.1, λ rolled told. gave_first (is.2 rolled told))
    says (Err (fa.HostFault Pending)) is damaged = (rose is.0, tt, λ rolled told. gave_first (is.2 rolled told))
    says (Err fa.InDoubt) is damaged = (rose is.0, is.1, is.2)
    says (Err (fa.KernelRefused k n left)) is damaged = (refused_left left is.1 is.0, is.1, is.2, is.3)
    says (Err (fa.NotVerified found left)) is damaged = is
    says (Err (fa.Damaged area)) is damaged = λ told. (damaged area refl told, stands_first area (is told).1)
    says (Err (fa.HardwareDiffers names)) is damaged = is
    says (Err fa.OutOfMemory) is damaged = starved is

    begun_counted : (left : Left) → left ≡ back → NoCallMade mid.kernel new.kernel → PolicyCounted tells old.kernel new.kernel (Err (apply_cause (fa.HostFault left)))
    begun_counted NotBegun is made = unmade_on old.kernel mid.kernel new.kernel (unmade (sym is)) made
    begun_counted RolledBack is made = quiet_on old.kernel mid.kernel new.kernel quiet (unmade_quiet mid.kernel new.kernel made)
    begun_counted Pending is made = absurd (side (sym is))

    -- The law of counts: those of a recovery and a dump, by which no call was refused, and then those of an apply.
    pub counts : (result : Result Applied ApplyFault) → ApplySays tells a mid new result → ApplyCounts mid.kernel new.kernel result
        → PolicyCounted tells old.kernel new.kernel (told said_applied apply_cause (told_as back result))
    counts (Ok done) is made = quiet_on old.kernel mid.kernel new.kernel quiet made
    counts (Err (fa.Pending until)) is made =
        (quiet_on old.kernel mid.kernel new.kernel quiet (unmade_quiet mid.kernel new.kernel made), λ told. absurd (none_waits a (standing mid.state) until (none told) (is told).answer))
    counts (Err (fa.MergeRefused refused)) is made = quiet_on old.kernel mid.kernel new.kernel quiet made
    counts (Err (fa.HostFault NotBegun)) is made = begun_counted back refl made
    counts (Err (fa.HostFault RolledBack)) is made = quiet_on old.kernel mid.kernel new.kernel quiet made
    counts (Err (fa.HostFault Pending)) is made = few_after old.kernel mid.kernel new.kernel quiet made
    counts (Err fa.InDoubt) is made = quiet_on old.kernel mid.kernel new.kernel quiet made
    counts (Err (fa.KernelRefused k n left)) is made =
        (refused_after k n old.kernel mid.kernel new.kernel quiet made.0, λ rolled. once_after old.kernel mid.kernel new.kernel quiet (made.1 rolled))
    counts (Err (fa.NotVerified found left)) is made = quiet_on old.kernel mid.kernel new.kernel quiet made
    counts (Err (fa.Damaged area)) is made = few_after old.kernel mid.kernel new.kernel quiet made
    counts (Err (fa.HardwareDiffers names)) is made = few_after old.kernel mid.kernel new.kernel quiet made
    counts (Err fa.OutOfMemory) is made = few_after old.kernel mid.kernel new.kernel quiet made

  module _ (taken : Type 0) (second : Type 0) where
    no_excuse : (tells → HasTaken a.now (standing mid.state).cell) ⊎ second → (tells → taken) ⊎ second
    no_excuse (inl has) = inl (λ told. absurd (subst (λ (c : Option Checkpoint). HasTaken a.now c) (none told) (has told)))
    no_excuse (inr other) = inr other

    risen : Rose mid.kernel.refusals new.kernel.refusals → Rose old.kernel.refusals new.kernel.refusals
    risen is = subst (λ (r : ℕ). Rose r new.kernel.refusals) quiet.refusals is

    risen_twice : RoseTwice mid.kernel.refusals new.kernel.refusals → RoseTwice old.kernel.refusals new.kernel.refusals
    risen_twice is = subst (λ (r : ℕ). RoseTwice r new.kernel.refusals) quiet.refusals is

    tries_side : (left : Left) → left ≢ Pending → Tries ((tells → taken) ⊎ second) old.faults old.kernel.refusals new (Err (fa.HostFault left))
    tries_side NotBegun other = tt
    tries_side RolledBack other = tt
    tries_side Pending other = absurd (other refl)

    pub tries : (result : Result Applied ApplyFault) → Tries ((tells → HasTaken a.now (standing mid.state).cell) ⊎ second) mid.faults mid.kernel.refusals new result
        → Tries ((tells → taken) ⊎ second) old.faults old.kernel.refusals new (told_as back result)
    tries (Ok done) is = tt
    tries (Err (fa.Pending until)) is = tt
    tries (Err (fa.MergeRefused refused)) is = tt
    tries (Err (fa.HostFault NotBegun)) is = tries_side back side
    tries (Err (fa.HostFault RolledBack)) is = tt
    tries (Err (fa.HostFault Pending)) (inl excuse) = inl (no_excuse excuse)
    tries (Err (fa.HostFault Pending)) (inr (inl twice)) = inr (inl (twice_after old.faults mid.faults new.faults faults twice))
    tries (Err (fa.HostFault Pending)) (inr (inr refused)) = inr (inr (risen refused))
    tries (Err (fa.KernelRefused k n NotBegun)) is = tt
    tries (Err (fa.KernelRefused k n RolledBack)) is = tt
    tries (Err (fa.KernelRefused k n Pending)) (inl excuse) = inl (no_excuse excuse)
    tries (Err (fa.KernelRefused k n Pending)) (inr (inl twice)) = inr (inl (risen_twice twice))
    tries (Err (fa.KernelRefused k n Pending)) (inr (inr once)) = inr (inr (rose once))
    tries (Err (fa.NotVerified found left)) is = tt
    tries (Err fa.InDoubt) is = tt
    tries (Err (fa.Damaged area)) is = tt
    tries (Err (fa.HardwareDiffers names)) is = tt
    tries (Err fa.OutOfMemory) is = tt

  pub dumps : (no_verify : Bool) (result : Result Applied ApplyFault) → Dumps tells no_verify new result → Dumps tells no_verify new (told_as back result)
  dumps no_verify (Ok done) is = is
  dumps no_verify (Err (fa.HostFault NotBegun)) is = tt
  dumps no_verify (Err (fa.HostFault RolledBack)) is = tt
  dumps no_verify (Err (fa.HostFault Pending)) is = tt
  dumps no_verify (Err (fa.Pending until)) is = tt
  dumps no_verify (Err (fa.MergeRefused refused)) is = tt
  dumps no_verify (Err (fa.KernelRefused k n left)) is = tt
  dumps no_verify (Err (fa.NotVerified found left)) is = tt
  dumps no_verify (Err fa.InDoubt) is = is
  dumps no_verify (Err (fa.Damaged area)) is = tt
  dumps no_verify (Err (fa.HardwareDiffers names)) is = tt
  dumps no_verify (Err fa.OutOfMemory) is = tt

  -- ---- on an honest host, sound or not, where what stands is what the recovery left

  module _ (after : standing mid.state ≡ (recover a.now (standing old.state)).after) (is_none : (standing mid.state).cell ≡ None) where
    before_is : (recover a.now (standing mid.state)).after.net ≡ (recover a.now (standing old.state)).after.net
    before_is = ap (λ (c : Option Checkpoint). (recover_cell a.now (standing mid.state) c).after.net) is_none ∙ ap (λ (x : Standing). x.net) after

    unbegun_backs : (left : Left) → new.state ≡ mid.state → Backs (recover a.now (standing old.state)).after.net new (Err (fa.HostFault left))
    unbegun_backs NotBegun stays = tt
    unbegun_backs RolledBack stays = inr (ap (λ (s : State). s.net) stays ∙ ap (λ (x : Standing). x.net) after)
    unbegun_backs Pending stays = tt

    pub backs : (result : Result Applied ApplyFault) → Backs (recover a.now (standing mid.state)).after.net new result → (result ≡ Err (fa.HostFault NotBegun) → new.state ≡ mid.state)
        → Backs (recover a.now (standing old.state)).after.net new (told_as back result)
    backs (Ok done) is stays = tt
    backs (Err (fa.Pending until)) is stays = tt
    backs (Err (fa.MergeRefused refused)) is stays = tt
    backs (Err (fa.HostFault NotBegun)) is stays = unbegun_backs back (stays refl)
    backs (Err (fa.HostFault RolledBack)) (inl saved) stays = inl saved
    backs (Err (fa.HostFault RolledBack)) (inr before) stays = inr (before ∙ before_is)
    backs (Err (fa.HostFault Pending)) is stays = tt
    backs (Err (fa.KernelRefused k n left)) is stays = tt
    backs (Err (fa.NotVerified found left)) is stays = tt
    backs (Err fa.InDoubt) is stays = tt
    backs (Err (fa.Damaged area)) is stays = tt
    backs (Err (fa.HardwareDiffers names)) is stays = tt
    backs (Err fa.OutOfMemory) is stays = tt

    module _ (taken : Type 0) where
      twice_side : (left : Left) → left ≢ Pending → FailsTwice taken old.faults new (Err (fa.HostFault left))
      twice_side NotBegun other = tt
      twice_side RolledBack other = tt
      twice_side Pending other = absurd (other refl)

      pub fails_twice : (result : Result Applied ApplyFault) → FailsTwice (HasTaken a.now (standing mid.state).cell) mid.faults new result → FailsTwice taken old.faults new (told_as back result)
      fails_twice (Ok done) is = tt
      fails_twice (Err (fa.Pending until)) is = tt
      fails_twice (Err (fa.MergeRefused refused)) is = tt
      fails_twice (Err (fa.HostFault NotBegun)) is = twice_side back side
      fails_twice (Err (fa.HostFault RolledBack)) is = tt
      fails_twice (Err (fa.HostFault Pending)) (inl has) = absurd (subst (λ (c : Option Checkpoint). HasTaken a.now c) is_none has)
      fails_twice (Err (fa.HostFault Pending)) (inr twice) = inr (twice_after old.faults mid.faults new.faults faults twice)
      fails_twice (Err (fa.KernelRefused k n left)) is = tt
      fails_twice (Err (fa.NotVerified found left)) is = tt
      fails_twice (Err fa.InDoubt) is = tt
      fails_twice (Err (fa.Damaged area)) is = tt
      fails_twice (Err (fa.HardwareDiffers names)) is = tt
      fails_twice (Err fa.OutOfMemory) is = tt

    module _ (machine : apply a (standing old.state) ≡ apply a (standing mid.state)) where
      outcome : {r : Result Applied ApplyFault} → IsOutcome (apply a (standing mid.state)) new r → IsOutcome (apply a (standing old.state)) new r
      outcome {r} is = subst (λ (o : Made). IsOutcome o new r) (sym machine) is

      pub exact : (result : Result Applied ApplyFault) → ApplyExact (Rose mid.faults new.faults) (apply a (standing mid.state)) new result → ApplyExact (Rose old.faults new.faults) (apply a (standing old.state)) new (told_as back result)
      exact (Ok done) is = outcome is
      exact (Err (fa.Pending until)) is = outcome is
      exact (Err (fa.MergeRefused refused)) is = outcome is
      exact (Err (fa.HostFault NotBegun)) is = rose is
      exact (Err (fa.HostFault RolledBack)) is = rose is
      exact (Err (fa.HostFault Pending)) is = rose is
      exact (Err fa.InDoubt) is = (rose is.0, subst (λ (o : Made). IsMade o new) (sym machine) is.1)
      exact (Err (fa.KernelRefused k n left)) is = is
      exact (Err (fa.NotVerified found left)) is = is
      exact (Err (fa.Damaged area)) (inl risen) = inl (rose risen)
      exact (Err (fa.Damaged area)) (inr is) = inr (outcome is)
      exact (Err (fa.HardwareDiffers names)) (inl risen) = inl (rose risen)
      exact (Err (fa.HardwareDiffers names)) (inr is) = inr (outcome is)
      exact (Err fa.OutOfMemory) is = tt

      -- ---- on an honest host that is sound

      pub answers : (result : Result Applied ApplyFault) → ApplyAnswers a mid new result → ApplyAnswers a old new (told_as back result)
      answers (Ok done) is = outcome is
      answers (Err (fa.Pending until)) is = outcome is
      answers (Err (fa.MergeRefused refused)) is = outcome is
      answers (Err (fa.HostFault NotBegun)) is = rose is
      answers (Err (fa.HostFault RolledBack)) is = rose is
      answers (Err (fa.HostFault Pending)) is = rose is
      answers (Err fa.InDoubt) is = rose is
      answers (Err (fa.KernelRefused k n left)) is = is
      answers (Err (fa.NotVerified found left)) is = is
      answers (Err (fa.Damaged area)) is = outcome is
      answers (Err (fa.HardwareDiffers names)) is = outcome is
      answers (Err fa.OutOfMemory) is = tt

      module _ (fit : Fit old.state) where
        settled_is : settled a.now (standing old.state) ≡ Some (standing mid.state)
        settled_is = settles a.now old.state fit ∙ ap (λ (x : Standing). Some x) (sym after)

        stays_settled : settled a.now (standing mid.state) ≡ Some (standing mid.state)
        stays_settled = ap (λ (c : Option Checkpoint). settled_from a.now (standing mid.state) c) is_none

        settled_on : (x : Standing) → settled a.now (standing mid.state) ≡ Some x → settled a.now (standing old.state) ≡ Some x
        settled_on x is = settled_is ∙ sym stays_settled ∙ is

        abbrev reached : Stands
        reached = Either (Settled a.now (entry_of old)) (Only (apply a (standing old.state)).after)

        pub kept : Kept (Only (recover a.now (standing old.state)).after) old mid → Kept (Either (Settled a.now (entry_of mid)) (Only (apply a (standing mid.state)).after)) mid new → Kept reached old new
        kept first second = kept_on reached old mid new
            (kept_wider (Only (recover a.now (standing old.state)).after) reached (λ x is. inl (settles a.now old.state fit ∙ ap (λ (y : Standing). Some y) (sym is))) old mid first)
            (kept_wider (Either (Settled a.now (entry_of mid)) (Only (apply a (standing mid.state)).after)) reached
            (λ x is. elim is [ inl stood ↦ inl (settled_on x stood) | inr last ↦ inr (last ∙ ap (λ (o : Made). o.after) (sym machine)) ]) mid new second)

        -- of the entries, which are of what may be left or of what reads
        module _ (before between : Entry) (reads_old : before.reads ≡ standing old.state) (reads_mid : between.reads ≡ standing mid.state)
            (here : before.left (standing old.state)) (left : (x : Standing) → between.left x → Near (Only (standing mid.state)) x) (left_new : Stands)
            (unrestored : back ≡ NotBegun ⊎ ((saved : NetData) × (standing mid.state ≡ restored_to saved))) where
          settled_entry : (x : Standing) → Settled a.now between x → Settled a.now before x
          settled_entry x is = ap (settled a.now) reads_old ∙ settled_on x (ap (settled a.now) (sym reads_mid) ∙ is)

          apply_after : (apply a between.reads).after ≡ (apply a before.reads).after
          apply_after = ap (λ (x : Standing). (apply a x).after) reads_mid ∙ ap (λ (o : Made). o.after) (sym machine) ∙ ap (λ (x : Standing). (apply a x).after) (sym reads_old)

          near_mid : (x : Standing) → Near (Before between) x → Near (Only (standing mid.state)) x
          near_mid x near = near_on (Only (standing mid.state)) near.station x (left near.station near.is) near.like

          mid_settled : (x : Standing) → x ≡ standing mid.state → Settled a.now before x
          mid_settled x is = ap (settled a.now) reads_old ∙ settled_is ∙ ap (λ (y : Standing). Some y) (sym is)

          back_within : Within left_new (Before between) → Within left_new (Settled a.now before)
          back_within all x is = near_wider (Only (standing mid.state)) (Settled a.now before) mid_settled x (near_mid x (all x is))

          -- where nothing was taken back, what stood at the entry stands
          still_within : mid.state ≡ old.state → Within left_new (Before between) → Within left_new (Before before)
          still_within stays all x is =
              near_wider (Only (standing mid.state)) (Before before) (λ y same. subst (λ (z : Standing). before.left z) (sym (same ∙ ap standing stays)) here) x (near_mid x (all x is))

          no_longer : Unsettled a.now between → ⊥
          no_longer unsettled = let e : None ≡ Some unsettled.checkpoint = sym is_none ∙ ap (λ (x : Standing). x.cell) (sym reads_mid) ∙ unsettled.is in cc

          marked_on : (x : Standing) → Either (Settled a.now between) (Marked a between (Rose mid.faults new.faults)) x → Either (Settled a.now before) (Marked a before (Rose old.faults new.faults)) x
          marked_on x (inl is) = inl (settled_entry x is)
          marked_on x (inr (waits, risen, is)) = inr (waits, rose risen, is ∙ apply_after)

          way_on : (twice wider : Type 0) → (twice → wider) → OnWay a between left_new (Rose mid.faults new.faults) twice → OnWay a before left_new (Rose old.faults new.faults) wider
          way_on twice wider more (inl (unsettled, all)) = absurd (no_longer unsettled)
          way_on twice wider more (inr (is, all)) =
              inr (more is, λ x there. near_wider (Either (Settled a.now between) (Marked a between (Rose mid.faults new.faults))) (Either (Settled a.now before) (Marked a before (Rose old.faults new.faults))) marked_on x (all x there))

          doubt_on : IsInDoubt a between left_new → IsInDoubt a before left_new
          doubt_on doubt = record {
            to = doubt.to;
            near = λ x there. near_wider (Either (Settled a.now between) (Only (apply a between.reads).after)) (Either (Settled a.now before) (Only (apply a before.reads).after))
                (λ y is. elim is [ inl stood ↦ inl (settled_entry y stood) | inr last ↦ inr (last ∙ apply_after) ]) x (doubt.near x there);
            net = doubt.net;
            changed = ap (λ (x : Standing). x.net) (sym apply_after) ∙ doubt.changed;
          }

          settled_within : Within left_new (Settled a.now between) → Within left_new (Settled a.now before)
          settled_within all x there = near_wider (Settled a.now between) (Settled a.now before) settled_entry x (all x there)

          unbegun_exit : (side : Left) → side ≡ back → side ≢ Pending → (side ≡ NotBegun → mid.state ≡ old.state) → Within left_new (Before between)
              → ApplyExit a before left_new (Rose old.faults new.faults) (RoseTwice old.faults new.faults) (Err (fa.HostFault side))
          unbegun_exit NotBegun is other stays all = still_within (stays refl) all
          unbegun_exit RolledBack is other stays all = back_within all
          unbegun_exit Pending is other stays all = absurd (other refl)

          pub exits : (back ≡ NotBegun → mid.state ≡ old.state) → (result : Result Applied ApplyFault) → ApplyAnswers a mid new result → ApplyExit a between left_new (Rose mid.faults new.faults) (RoseTwice mid.faults new.faults) result
              → ApplyExit a before left_new (Rose old.faults new.faults) (RoseTwice old.faults new.faults) (told_as back result)
          exits stays (Ok done) is exit = λ x there. near_wider (Only (apply a between.reads).after) (Only (apply a before.reads).after) (λ y last. last ∙ apply_after) x (exit x there)
          exits stays (Err (fa.Pending until)) is exit = settled_within exit
          exits stays (Err (fa.MergeRefused refused)) is exit = settled_within exit
          exits stays (Err (fa.HostFault NotBegun)) is exit = unbegun_exit back refl side stays exit
          exits stays (Err (fa.HostFault RolledBack)) is exit = settled_within exit
          exits stays (Err (fa.HostFault Pending)) is exit = way_on (RoseTwice mid.faults new.faults) (RoseTwice old.faults new.faults) (twice_after old.faults mid.faults new.faults faults) exit
          exits stays (Err (fa.KernelRefused k n left)) is exit = absurd exit
          exits stays (Err (fa.NotVerified found left)) is exit = absurd exit
          exits stays (Err fa.InDoubt) is exit = doubt_on exit
          exits stays (Err (fa.Damaged area)) is exit = elim unrestored [
            | inl not ↦ still_within (stays not) exit
            | inr (saved, stood) ↦ absurd (none_damaged a (standing mid.state) saved area stood is.answer)
          ]
          exits stays (Err (fa.HardwareDiffers names)) is exit = absurd exit
          exits stays (Err fa.OutOfMemory) is exit = way_on (Unit {0}) (Unit {0}) (λ x. x) exit
