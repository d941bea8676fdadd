-- What an apply of a policy answers, leaves and tells where its recovery fails, or a change waits.
use Rattle.std.proofs.Common.{◌≡◌, ◌≢◌, ◌∙◌, inl, inr, refl, sym, ap, subst, ℕ, Bool, true, false, Option, Some, None, Result, Ok, Err}
use Rattle.std.specs.Prelude.{option_map, if◌then◌else◌}
use Rattle.net_model.specs.NetData.{NetData}
use Rattle.policy_model.specs.Values.{PolicyData}
use Rattle.host_core.specs.HostView.{State, Kernel, HostView, NoneRefused}
use Rattle.host_core.specs.declared.DumpFault.{DumpFault}
use Rattle.checkpoint_cell.specs.Cell.{Checkpoint, cell_of}
use Rattle.checkpoint_cell.specs.Settled.{Standing, standing, settled, settled_from, taken_back, restored_to}
use Rattle.engine_model.specs.Machine.{Outcome, stays, saved_on, restored_as, restore, recover, recover_cell, apply_fault}
use Rattle.engine_model.specs.Sound.{Fit}
use Rattle.engine_model.specs.Answers.{IsBefore, IsClear}
use Rattle.engine_model.specs.Stations.{Stands, Entry, Within, Before, Settled, Either, Only, Kept, at}
use Rattle.engine_model.specs.Exit.{BackExit, Unsettled}
use Rattle.engine_model.specs.Refusals.{NoCallMade, BackCounts}
use Rattle.engine_model.specs.Failing.{IsUnbegun}
use Rattle.engine_model.specs.Faults.{IsOutcome, LeftSays, BackAnswers, BackExact, BackSays, HasSet, HasTaken, SettlesOnly, StillOpen}
use Rattle.engine_model.specs.declared.ApplyOpts.{ApplyOpts}
use Rattle.engine_model.specs.declared.Left.{Left}
use Rattle.engine_model.specs.declared.Left.TheVariants as side
use Rattle.engine_model.specs.declared.Recovered.{Recovered}
use Rattle.engine_model.specs.declared.Recovered.TheVariants.{Nothing, Waiting as Waits, Restored}
use Rattle.engine_model.specs.declared.BackFault.{BackFault}
use Rattle.engine_model.specs.declared.BackFault.TheVariants as ba
use Rattle.engine_model.proofs.lemmas.Finding.{found_saved}
use Rattle.engine_model.proofs.lemmas.Leading.{near_wider, kept_wider}
use Rattle.engine_model.proofs.lemmas.Backs.{settles, recover_waits}
use Rattle.top_model.specs.Said.{Said}
use Rattle.top_model.specs.Orders.{Inputs, Order, document_on, applying_policy, committing, rolling_back, recovering, order_of}
use Rattle.top_model.specs.Machine.{apply_cause, apply_read, apply_on, apply_after, apply_policy, ground, ground_after, machine_of}
use Rattle.top_model.specs.Runs.{Run, MayRead, Alone, HostRose, HostRoseTwice, entry, reads, left_at_exit}
use Rattle.top_model.specs.Told.{Answer, Told}
use Rattle.top_model.specs.Causes.{MayWant, MayAnswer, Comes, Expects, ExactlyOf}
use Rattle.top_model.specs.Counts.{PolicyCounted}
use Rattle.top_model.specs.Tried.{Tried}
use Rattle.top_model.specs.Exits.{PolicyLeaves}
use Rattle.top_model.specs.Undisturbed.{Spares}
use Rattle.top_model.specs.Answered.{GoesOn, Unbegun, LeavesWaiting, Answered}
use Rattle.top_model.specs.declared.report.Cause.{Cause}
use Rattle.top_model.specs.declared.report.Cause.TheVariants.{Pending, HostFault, Damaged}
use Rattle.top_model.proofs.lemmas.Unbegun.{unchanged}
use Rattle.top_model.proofs.lemmas.Counting.{nothing_other, waits_other, settling_counted}
use Rattle.top_model.proofs.lemmas.Wanting.{may_want_order}
use Rattle.command_laws.specs.Begun.{Recovers, Looks, side_of}

-- ---- by the machine

abbrev pub given : Recovered → Result Recovered BackFault
given done = Ok done

abbrev pub failed : BackFault → Result Recovered BackFault
failed fault = Err fault

failed_given : (fault : BackFault) (done : Recovered) → failed fault ≡ given done → ⊥
failed_given fault done e = cc

same_given : (a b : Recovered) → given a ≡ given b → a ≡ b
same_given a b e = cc

nothing_restored : given Nothing ≡ given Restored → ⊥
nothing_restored e = cc

waits_restored : (deadline : ℕ) → given (Waits deadline) ≡ given Restored → ⊥
waits_restored deadline e = cc

nothing_waits : (deadline : ℕ) → given Nothing ≡ given (Waits deadline) → ⊥
nothing_waits deadline e = cc

pub none_some : (net : NetData) → None ≡ Some net → ⊥
none_some net e = cc

pub ok_err : {A : Type 0} (x : A) (cause : Cause) → Ok x ≡ Err cause → ⊥
ok_err x cause e = cc

abbrev pub Recovery : Type 0
Recovery = Outcome Recovered BackFault

-- a recovery, by whether the change is taken back
abbrev recovers_as : Standing → Checkpoint → Bool → Recovery
recovers_as e c taken = if taken then restore Restored e c else stays e (Ok (Waits c.deadline))

module _ (now : ℕ) where
  restored_found : (e : Standing) (found : Result NetData BackFault) → (restored_as Restored e found).answer ≡ given Restored → (saved : NetData) × ((restored_as Restored e found).after ≡ restored_to saved)
  restored_found e (Ok saved) is = (saved, refl)
  restored_found e (Err fault) is = absurd (failed_given fault Restored is)

  restored_taken : (e : Standing) (c : Checkpoint) (taken : Bool) → (recovers_as e c taken).answer ≡ given Restored → (saved : NetData) × ((recovers_as e c taken).after ≡ restored_to saved)
  restored_taken e c true is = restored_found e (saved_on c.net e.net) is
  restored_taken e c false is = absurd (waits_restored c.deadline is)

  restored_cell : (e : Standing) (cell : Option Checkpoint) → (recover_cell now e cell).answer ≡ given Restored → (saved : NetData) × ((recover_cell now e cell).after ≡ restored_to saved)
  restored_cell e None is = absurd (nothing_restored is)
  restored_cell e (Some c) is = restored_taken e c (taken_back now c.phase c.made c.deadline) is

  -- what is restored is a network alone
  pub restored_net : (e : Standing) → (recover now e).answer ≡ given Restored → (saved : NetData) × ((recover now e).after ≡ restored_to saved)
  restored_net e is = restored_cell e e.cell is

  settles_found : (e : Standing) (cell : Option NetData) (found : Result NetData BackFault) → ((saved : NetData) → found ≡ Ok saved → cell ≡ Some saved) → (done : Recovered)
      → (restored_as Restored e found).answer ≡ given done → option_map (λ saved. restored_to saved) cell ≡ Some (restored_as Restored e found).after
  settles_found e cell (Ok saved) has done is = ap (λ (n : Option NetData). option_map (λ saved. restored_to saved) n) (has saved refl)
  settles_found e cell (Err fault) has done is = absurd (failed_given fault done is)

  settles_taken : (e : Standing) (c : Checkpoint) (done : Recovered) → IsClear done → (taken : Bool) → (recovers_as e c taken).answer ≡ given done
      → option_map (λ saved. if taken then restored_to saved else e) c.net ≡ Some (recovers_as e c taken).after
  settles_taken e c done clear true is = settles_found e c.net (saved_on c.net e.net) (λ saved found. found_saved c.net e.net saved found) done is
  settles_taken e c done clear false is = absurd (subst IsClear (sym (same_given (Waits c.deadline) done is)) clear)

  settles_cell : (e : Standing) (done : Recovered) → IsClear done → (cell : Option Checkpoint) → (recover_cell now e cell).answer ≡ given done → settled_from now e cell ≡ Some (recover_cell now e cell).after
  settles_cell e done clear None is = refl
  settles_cell e done clear (Some c) is = settles_taken e c done clear (taken_back now c.phase c.made c.deadline) is

  -- where a recovery leaves no checkpoint, what it leaves is what was settled
  pub clear_settles : (e : Standing) (done : Recovered) → IsClear done → (recover now e).answer ≡ given done → settled now e ≡ Some (recover now e).after
  clear_settles e done clear is = settles_cell e done clear e.cell is

  -- where a network alone stands, nothing is to be taken back
  pub nothing_there : (e : Standing) (from : NetData) → e ≡ restored_to from → recover now e ≡ stays e (given Nothing)
  nothing_there e from stood = ap (recover_cell now e) (ap (λ (x : Standing). x.cell) stood)

  never_fails : (e : Standing) (from : NetData) (fault : BackFault) → e ≡ restored_to from → (recover now e).answer ≡ failed fault → ⊥
  never_fails e from fault stood is = failed_given fault Nothing (sym is ∙ ap (λ (o : Recovery). o.answer) (nothing_there e from stood))

  never_waits : (e : Standing) (from : NetData) (deadline : ℕ) → e ≡ restored_to from → (recover now e).answer ≡ given (Waits deadline) → ⊥
  never_waits e from deadline stood is = nothing_waits deadline (sym (ap (λ (o : Recovery). o.answer) (nothing_there e from stood)) ∙ is)

-- why the recovery failed, as a cause
abbrev pub recovery_cause : BackFault → Cause
recovery_cause fault = apply_cause (apply_fault fault)

module _ (p : PolicyData) (opts : ApplyOpts) (now : ℕ) (e : Standing) where
  abbrev Asked : Outcome Said Cause
  Asked = apply_policy p opts now e

  abbrev refused_so : Cause → Outcome Said Cause
  refused_so cause = stays (recover now e).after (Err cause)

  when_failed : (fault : BackFault) → (recover now e).answer ≡ failed fault → Asked ≡ refused_so (recovery_cause fault)
  when_failed fault is = ap (λ (x : Result Recovered BackFault). apply_after p opts now (recover now e).after x) is

  when_waiting : (deadline : ℕ) → (recover now e).answer ≡ given (Waits deadline) → Asked ≡ refused_so (Pending deadline)
  when_waiting deadline is = ap (λ (x : Result Recovered BackFault). apply_after p opts now (recover now e).after x) is

  when_clear : (done : Recovered) → IsClear done → (recover now e).answer ≡ given done → Asked ≡ apply_on p opts now (recover now e).after (recover now e).after.net
  when_clear Nothing clear is = ap (λ (x : Result Recovered BackFault). apply_after p opts now (recover now e).after x) is
  when_clear (Waits deadline) clear is = absurd clear
  when_clear Restored clear is = ap (λ (x : Result Recovered BackFault). apply_after p opts now (recover now e).after x) is

  pub when_damaged : (done : Recovered) → IsClear done → (recover now e).answer ≡ given done → (recover now e).after.net ≡ None → Asked ≡ refused_so (Damaged 0)
  when_damaged done clear is none = when_clear done clear is ∙ ap (λ (n : Option NetData). apply_on p opts now (recover now e).after n) none

  pub when_refused : (done : Recovered) → IsClear done → (recover now e).answer ≡ given done → (net : NetData) (cause : Cause) → (recover now e).after.net ≡ Some net → document_on p net ≡ Err cause → Asked ≡ refused_so cause
  when_refused done clear is net cause there refused =
      when_clear done clear is ∙ ap (λ (n : Option NetData). apply_on p opts now (recover now e).after n) there ∙ ap (apply_read opts now (recover now e).after) refused

  -- the policy is evaluated on what stands then
  pub ground_clear : (done : Recovered) → IsClear done → (recover now e).answer ≡ given done → ground now (applying_policy p opts) e ≡ (recover now e).after.net
  ground_clear Nothing clear is = ap (λ (x : Result Recovered BackFault). ground_after (recover now e).after x) is
  ground_clear (Waits deadline) clear is = absurd clear
  ground_clear Restored clear is = ap (λ (x : Result Recovered BackFault). ground_after (recover now e).after x) is

  pub refused_answer : (cause : Cause) → Asked ≡ refused_so cause → Asked.answer ≡ Err cause
  refused_answer cause is = ap (λ (o : Outcome Said Cause). o.answer) is

  pub refused_outcome : (cause : Cause) (new : HostView) → Asked ≡ refused_so cause → standing new.state ≡ (recover now e).after → IsOutcome Asked new (Err cause)
  refused_outcome cause new is after = record { answer = refused_answer cause is; after = after ∙ ap (λ (o : Outcome Said Cause). o.after) (sym is) }

-- ---- counts and sides

begun_pending : side.NotBegun ≡ side.Pending → ⊥
begun_pending e = cc

rolled_pending : side.RolledBack ≡ side.Pending → ⊥
rolled_pending e = cc

pending_begun : side.Pending ≡ side.NotBegun → ⊥
pending_begun e = cc

-- ---- what was counted, by whether something was taken back

-- a dump makes no call
pub looked : (tells honest : Type 0) (old new : HostView) (result : Result NetData DumpFault) → Looks tells honest old new result → NoCallMade old.kernel new.kernel
looked tells honest old new (Ok net) look = inr look.calls
looked tells honest old new (Err fault) look = inl look.kernel

pub settles_by : (tells : Type 0) (now : ℕ) (state : State) (old new : Kernel) (done : Recovered) → IsClear done → (done ≢ Restored → NoCallMade old new) → (done ≡ Restored → tells → HasTaken now (standing state).cell)
    → SettlesOnly tells now state old new
settles_by tells now state old new Nothing clear unmade taken = inr (unmade nothing_other)
settles_by tells now state old new (Waits deadline) clear unmade taken = absurd clear
settles_by tells now state old new Restored clear unmade taken = inl (taken refl)

pub fail_counted : (tells : Type 0) (old new : Kernel) (done : Recovered) → IsClear done → (done ≢ Restored → NoCallMade old new) → NoneRefused old new → PolicyCounted tells old new (Err (HostFault (side_of done)))
fail_counted tells old new Nothing clear unmade quiet = unmade nothing_other
fail_counted tells old new (Waits deadline) clear unmade quiet = absurd clear
fail_counted tells old new Restored clear unmade quiet = quiet

-- a change that was to be taken back
unsettled : (now : ℕ) (before : Entry) (cell : Option Checkpoint) → before.reads.cell ≡ cell → HasTaken now cell → Unsettled now before
unsettled now before None is taken = absurd taken
unsettled now before (Some c) is taken = record { checkpoint = c; is = is; taken = taken }

-- a recovery finds a change that waits and isn't due
found_undue : (now : ℕ) (s : State) (c : Checkpoint) → cell_of s.cell ≡ Some c → (b : Bool) → taken_back now c.phase c.made c.deadline ≡ b → (taken_back now c.phase c.made c.deadline ≡ true → ⊥)
    → (recover now (standing s)).answer ≡ given Nothing → ⊥
found_undue now s c is true taken untaken nothing = untaken taken
found_undue now s c is false taken untaken nothing =
    let e : given (Waits c.deadline) ≡ given Nothing = sym (ap (λ (o : Outcome Recovered BackFault). o.answer) (recover_waits now s c is taken)) ∙ nothing in cc

found_waiting : (now : ℕ) (s : State) (cell : Option Checkpoint) → cell_of s.cell ≡ cell → HasSet cell → (HasTaken now cell → ⊥) → (recover now (standing s)).answer ≡ given Nothing → ⊥
found_waiting now s None is set untaken nothing = absurd set
found_waiting now s (Some c) is set untaken nothing = found_undue now s c is (taken_back now c.phase c.made c.deadline) refl untaken nothing

-- so none comes to its end there
pub never_clear : (tells honest : Type 0) (now : ℕ) (old mid : HostView) (done : Recovered) → IsClear done → Recovers tells honest now old mid (given done) → tells → HasSet (standing old.state).cell
    → (HasTaken now (standing old.state).cell → ⊥) → ⊥
never_clear tells honest now old mid Nothing clear first t set untaken = found_waiting now old.state (cell_of old.state.cell) refl set untaken (first.nothing t refl)
never_clear tells honest now old mid (Waits deadline) clear first t set untaken = absurd clear
never_clear tells honest now old mid Restored clear first t set untaken = untaken (first.restored t refl)

-- another order than those of the three single words
other_commit : (p : PolicyData) (opts : ApplyOpts) → applying_policy p opts ≢ committing
other_commit p opts e = cc

other_rollback : (p : PolicyData) (opts : ApplyOpts) → applying_policy p opts ≢ rolling_back
other_rollback p opts e = cc

other_recover : (p : PolicyData) (opts : ApplyOpts) → applying_policy p opts ≢ recovering
other_recover p opts e = cc

-- ---- the recovery fails, or a change waits

module _ (r : Run) (p : PolicyData) (opts : ApplyOpts) where
  abbrev Policy : Result Order Cause
  Policy = Ok (applying_policy p opts)

  abbrev told_fault : BackFault → Answer
  told_fault fault = Err (recovery_cause fault)

  abbrev Says : BackFault → Type 0
  Says fault = BackSays r.host_tells (recover r.now (reads r)).answer r.host r.host_after (failed fault)

  abbrev Counted : BackFault → Type 0
  Counted fault = BackCounts r.host.kernel r.host_after.kernel (failed fault)

  abbrev Answers : BackFault → Type 0
  Answers fault = BackAnswers (HasTaken r.now (reads r).cell) (recover r.now (reads r)) r.host r.host_after (failed fault)

  fault_may : (fault : BackFault) → (fault ≡ ba.NoCheckpoint → ⊥) → MayAnswer Policy (told_fault fault)
  fault_may ba.NoCheckpoint never = absurd (never refl)
  fault_may (ba.HostFault left) never = tt
  fault_may (ba.KernelRefused k n left) never = tt
  fault_may (ba.Damaged area) never = tt
  fault_may (ba.HardwareDiffers names) never = tt
  fault_may ba.OutOfMemory never = tt

  refused_left : (left : Left) → left ≡ side.Pending → StillOpen r.host_tells r.host_after
      → LeftSays r.host_tells r.host r.host_after left × (left ≢ side.NotBegun) × (left ≡ side.Pending → StillOpen r.host_tells r.host_after)
  refused_left side.NotBegun is set = absurd (begun_pending is)
  refused_left side.RolledBack is set = absurd (rolled_pending is)
  refused_left side.Pending is set = (tt, (λ e. pending_begun e), λ e. set)

  fault_comes : (fault : BackFault) → (fault ≡ ba.NoCheckpoint → ⊥) → MayWant r → Says fault → Counted fault → Comes r Policy (told_fault fault)
  fault_comes ba.NoCheckpoint never wants says counts = absurd (never refl)
  fault_comes (ba.HostFault left) never wants says counts = (says.0, says.1)
  fault_comes (ba.KernelRefused k n left) never wants says counts = refused_left left says.0 says.1
  fault_comes (ba.Damaged area) never wants says counts = λ t. let s = says t in (s.0, record { damaged = s.1; held = inl (inr counts) })
  fault_comes (ba.HardwareDiffers names) never wants says counts = says
  fault_comes ba.OutOfMemory never wants says counts = wants

  fault_tried : (r.honest → r.host_tells) → (fault : BackFault) → Says fault → Counted fault → (r.host_tells → (IsBefore fault → ⊥) → HasTaken r.now (reads r).cell) → Tried r Policy (told_fault fault)
  fault_tried tells ba.NoCheckpoint says counts begun = tt
  fault_tried tells (ba.HostFault side.NotBegun) says counts begun = tt
  fault_tried tells (ba.HostFault side.RolledBack) says counts begun = absurd (says.2 refl)
  fault_tried tells (ba.HostFault side.Pending) says counts begun = record { tried = inl (inl (λ t. begun t (λ x. x))); twice = λ honest. inl (begun (tells honest) (λ x. x)) }
  fault_tried tells (ba.KernelRefused k n side.NotBegun) says counts begun = tt
  fault_tried tells (ba.KernelRefused k n side.RolledBack) says counts begun = absurd (rolled_pending says.0)
  fault_tried tells (ba.KernelRefused k n side.Pending) says counts begun = inl (inl (λ t. begun t (λ x. x)))
  fault_tried tells (ba.Damaged area) says counts begun = tt
  fault_tried tells (ba.HardwareDiffers names) says counts begun = tt
  fault_tried tells ba.OutOfMemory says counts begun = inr (counts, inr (λ t. inr (inl (λ u. begun u (λ x. x)))))

  fault_unbegun : (fault : BackFault) → (IsBefore fault → IsUnbegun r.host_tells r.host r.host_after) → Unbegun r Policy (told_fault fault)
  fault_unbegun ba.NoCheckpoint idle = λ honest calm. unchanged r (idle tt)
  fault_unbegun (ba.HostFault side.NotBegun) idle = unchanged r (idle tt)
  fault_unbegun (ba.HostFault side.RolledBack) idle = tt
  fault_unbegun (ba.HostFault side.Pending) idle = tt
  fault_unbegun (ba.KernelRefused k n left) idle = tt
  fault_unbegun (ba.Damaged area) idle = λ honest calm. unchanged r (idle tt)
  fault_unbegun (ba.HardwareDiffers names) idle = λ honest calm. unchanged r (idle tt)
  fault_unbegun ba.OutOfMemory idle = tt

  -- where a change waits that isn't due, nothing was begun
  fault_waits : (fault : BackFault) → (IsBefore fault → IsUnbegun r.host_tells r.host r.host_after) → (r.host_tells → (IsBefore fault → ⊥) → HasTaken r.now (reads r).cell) → LeavesWaiting r Policy
  fault_waits ba.NoCheckpoint idle begun = λ t waiting. unchanged r (idle tt)
  fault_waits (ba.HostFault side.NotBegun) idle begun = λ t waiting. unchanged r (idle tt)
  fault_waits (ba.HostFault side.RolledBack) idle begun = λ t waiting. absurd (waiting.1 (begun t (λ x. x)))
  fault_waits (ba.HostFault side.Pending) idle begun = λ t waiting. absurd (waiting.1 (begun t (λ x. x)))
  fault_waits (ba.KernelRefused k n left) idle begun = λ t waiting. absurd (waiting.1 (begun t (λ x. x)))
  fault_waits (ba.Damaged area) idle begun = λ t waiting. unchanged r (idle tt)
  fault_waits (ba.HardwareDiffers names) idle begun = λ t waiting. unchanged r (idle tt)
  fault_waits ba.OutOfMemory idle begun = λ t waiting. absurd (waiting.1 (begun t (λ x. x)))

  -- the machine's answer is the cause of the machine's fault
  fault_expected : (fault : BackFault) → (recover r.now (reads r)).answer ≡ failed fault → (machine_of r.now Policy (reads r)).answer ≡ Err (recovery_cause fault)
  fault_expected fault is = refused_answer p opts r.now (reads r) (recovery_cause fault) (when_failed p opts r.now (reads r) fault is)

  fault_exactly : (fault : BackFault) → (fault ≡ ba.NoCheckpoint → ⊥) → MayWant r → Says fault → BackExact (recover r.now (reads r)).answer (failed fault) → ExactlyOf r Policy (told_fault fault)
  fault_exactly ba.NoCheckpoint never wants says is = absurd (never refl)
  fault_exactly (ba.HostFault left) never wants says is = says.0
  fault_exactly (ba.KernelRefused k n left) never wants says is = is
  fault_exactly (ba.Damaged area) never wants says is = inr (fault_expected (ba.Damaged area) is)
  fault_exactly (ba.HardwareDiffers names) never wants says is = inr (fault_expected (ba.HardwareDiffers names) is)
  fault_exactly ba.OutOfMemory never wants says is = wants

  fault_outcome : (fault : BackFault) → IsOutcome (recover r.now (reads r)) r.host_after (failed fault) → IsOutcome (machine_of r.now Policy (reads r)) r.host_after (told_fault fault)
  fault_outcome fault is = refused_outcome p opts r.now (reads r) (recovery_cause fault) r.host_after (when_failed p opts r.now (reads r) fault is.answer) is.after

  fault_expects : (fault : BackFault) → (fault ≡ ba.NoCheckpoint → ⊥) → MayWant r → Answers fault → Expects r Policy (told_fault fault)
  fault_expects ba.NoCheckpoint never wants is = absurd (never refl)
  fault_expects (ba.HostFault left) never wants is = is.0
  fault_expects (ba.KernelRefused k n left) never wants is = is
  fault_expects (ba.Damaged area) never wants is = fault_outcome (ba.Damaged area) is
  fault_expects (ba.HardwareDiffers names) never wants is = fault_outcome (ba.HardwareDiffers names) is
  fault_expects ba.OutOfMemory never wants is = wants

  -- from this entry, whose settling the recovery leaves where it is done
  module _ (before : Entry) (left : Stands) (rose twice : Type 0) (last : Standing) (back : (x : Standing) → x ≡ (recover r.now (reads r)).after → Settled r.now before x) where
    back_on : Within left (Either (Before before) (Only (recover r.now (reads r)).after)) → Within left (Either (Before before) (Settled r.now before))
    back_on exit x there = near_wider (Either (Before before) (Only (recover r.now (reads r)).after)) (Either (Before before) (Settled r.now before))
        (λ y is. elim is [ inl was ↦ inl was | inr after ↦ inr (back y after) ]) x (exit x there)

    fault_leaves : (fault : BackFault) → (fault ≡ ba.NoCheckpoint → ⊥) → ((IsBefore fault → ⊥) → Unsettled r.now before) → BackExit (recover r.now (reads r)).after before left (failed fault)
        → PolicyLeaves opts r.now last before left rose twice (told_fault fault)
    fault_leaves ba.NoCheckpoint never taken exit = absurd (never refl)
    fault_leaves (ba.HostFault side.NotBegun) never taken exit = exit
    fault_leaves (ba.HostFault side.RolledBack) never taken exit = absurd exit
    fault_leaves (ba.HostFault side.Pending) never taken exit = inl (taken (λ x. x), back_on exit)
    fault_leaves (ba.KernelRefused k n left_so) never taken exit = absurd exit
    fault_leaves (ba.Damaged area) never taken exit = absurd exit
    fault_leaves (ba.HardwareDiffers names) never taken exit = absurd exit
    fault_leaves ba.OutOfMemory never taken exit = inr (inl (taken (λ x. x), back_on exit))

  fault_spares : (fault : BackFault) → (fault ≡ ba.NoCheckpoint → ⊥) → Says fault → Answers fault → Spares r Policy (told_fault fault)
  fault_spares ba.NoCheckpoint never says is doc from to stood has merges quiet other = absurd (never refl)
  fault_spares (ba.HostFault left) never says is doc from to stood has merges quiet other = absurd (quiet says.0)
  fault_spares (ba.KernelRefused k n left) never says is doc from to stood has merges quiet other = absurd is
  fault_spares (ba.Damaged area) never says is doc from to stood has merges quiet other = absurd (never_fails r.now (reads r) from (ba.Damaged area) stood is.answer)
  fault_spares (ba.HardwareDiffers names) never says is doc from to stood has merges quiet other = absurd (never_fails r.now (reads r) from (ba.HardwareDiffers names) stood is.answer)
  fault_spares ba.OutOfMemory never says is doc from to stood has merges quiet other = absurd (other refl)

  module _ (goes_on : GoesOn r) where
    fit : Alone r → Fit r.host.state
    fit a = a.sound.fit r.host.state (goes_on.lawful.reads (goes_on.tells a.honest))

    -- what the recovery leaves is what was settled
    pub back_settled : Alone r → (x : Standing) → x ≡ (recover r.now (reads r)).after → settled r.now (reads r) ≡ Some x
    back_settled a x is = settles r.now r.host.state (fit a) ∙ ap (λ (y : Standing). Some y) (sym is)

    abbrev pub Reached : Stands
    Reached = Either (Settled r.now (entry r)) (Only (machine_of r.now Policy (reads r)).after)

    pub back_kept : Alone r → (mid : HostView) → Kept (Only (recover r.now (reads r)).after) r.host mid → Kept Reached r.host mid
    back_kept a mid kept = kept_wider (Only (recover r.now (reads r)).after) Reached (λ x is. inl (back_settled a x is)) r.host mid kept

  module _ (inputs : Inputs) (may_read : MayRead r inputs) (is : order_of r.in_script inputs r.words ≡ Policy) where
    pub wants : MayWant r
    wants = may_want_order r inputs (applying_policy p opts) is (other_commit p opts) (other_rollback p opts) (other_recover p opts)

    -- the recovery failed
    pub failed_recovering : (fault : BackFault) → Recovers r.host_tells r.honest r.now r.host r.host_after (Err fault) → GoesOn r → Told r Policy (told_fault fault) → Answered r
    failed_recovering fault first goes_on told =
        let never : fault ≡ ba.NoCheckpoint → ⊥ = λ same. first.set_there (ap failed same) in
        let taken : (before : Entry) → before.reads.cell ≡ (reads r).cell → Alone r → (IsBefore fault → ⊥) → Unsettled r.now before =
        λ before same a late. unsettled r.now before (reads r).cell same (first.begun (goes_on.tells a.honest) late) in
        record {
          order = Policy;
          gives = (inputs, may_read, is);
          answer = told_fault fault;
          may = fault_may fault never;
          comes = fault_comes fault never wants first.says first.counts;
          counts = settling_counted r.host_tells r.host.kernel r.host_after.kernel fault first.counts;
          tried = fault_tried goes_on.tells fault first.says first.counts first.begun;
          told = told;
          goes_on = goes_on;
          looks = tt;
          unbegun = fault_unbegun fault first.unbegun;
          waits = fault_waits fault first.unbegun first.begun;
          exactly = λ honest. fault_exactly fault never wants first.says (first.exact honest);
          expects = λ a. fault_expects fault never wants (first.answer a.honest a.sound);
          leaves = λ a. fault_leaves (entry r) (left_at_exit r) (HostRose r) (HostRoseTwice r) (machine_of r.now Policy (reads r)).after (back_settled goes_on a) fault never (taken (entry r) refl a)
              (first.exit a.honest a.sound);
          reads_as = λ a. fault_leaves (at (reads r)) (Only (standing r.host_after.state)) (HostRose r) (HostRoseTwice r) (machine_of r.now Policy (reads r)).after (back_settled goes_on a) fault never
              (taken (at (reads r)) refl a) (first.reads a.honest a.sound);
          kept = λ a. back_kept goes_on a r.host_after (first.kept a.honest a.sound);
          spares = λ a. fault_spares fault never first.says (first.answer a.honest a.sound);
          compares = λ a verifies s left waits. inl (first.waits (goes_on.tells a.honest) s left waits);
        }

    -- a change waits
    pub waits_still : (deadline : ℕ) → Recovers r.host_tells r.honest r.now r.host r.host_after (Ok (Waits deadline)) → GoesOn r → Told r Policy (Err (Pending deadline)) → Answered r
    waits_still deadline first goes_on told = record {
      order = Policy;
      gives = (inputs, may_read, is);
      answer = Err (Pending deadline);
      may = tt;
      comes = (λ t. refused_answer p opts r.now (reads r) (Pending deadline) (when_waiting p opts r.now (reads r) deadline (first.waiting t deadline refl)), λ t. ap standing ((first.idle (waits_other deadline)).same t));
      counts = (first.counts, λ t. inl (first.unmade (waits_other deadline)));
      tried = tt;
      told = told;
      goes_on = goes_on;
      looks = tt;
      unbegun = λ t. unchanged r (first.idle (waits_other deadline));
      waits = λ t waiting. unchanged r (first.idle (waits_other deadline));
      exactly = λ honest. refused_answer p opts r.now (reads r) (Pending deadline) (when_waiting p opts r.now (reads r) deadline (first.exact honest));
      expects = λ a. refused_outcome p opts r.now (reads r) (Pending deadline) r.host_after (when_waiting p opts r.now (reads r) deadline (first.exact a.honest)) (first.after a.honest);
      leaves = λ a x there. near_wider (Only (recover r.now (reads r)).after) (Settled r.now (entry r)) (back_settled goes_on a) x (first.exit a.honest a.sound x there);
      reads_as = λ a x there. near_wider (Only (recover r.now (reads r)).after) (Settled r.now (at (reads r))) (back_settled goes_on a) x (first.reads a.honest a.sound x there);
      kept = λ a. back_kept goes_on a r.host_after (first.kept a.honest a.sound);
      spares = λ a doc from to stood has merges quiet other. absurd (never_waits r.now (reads r) from deadline stood (first.exact a.honest));
      compares = λ a verifies s left waits. inl (first.waits (goes_on.tells a.honest) s left waits);
    }
