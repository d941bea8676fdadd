-- An apply's answer on every honest host, sound or not, carried through its parts.
use Rattle.std.proofs.Common.{◌≡◌, ◌≢◌, ◌≤◌, inl, inr, arith, ℕ, Bool, true, false, refl, sym, ap, ◌∙◌, subst, Option, Some, None, Result, Ok, Err, List}
use Rattle.std.specs.Prelude.{OnOk, OnErr, IfOk, IfErr, if◌then◌else◌}
use Rattle.net_model.specs.NetData.{NetData}
use Rattle.document_model.specs.declared.Refused.{Refused}
use Rattle.host_core.specs.Faults.{Rose}
use Rattle.host_core.specs.HostView.{State, HostView, HasNet}
use Rattle.checkpoint_cell.specs.Cell.{Checkpoint, cell_of}
use Rattle.checkpoint_cell.specs.Settled.{Standing, standing, restored_to}
use Rattle.merge_model.specs.MergedNet.{merge}
use Rattle.engine_model.specs.Machine.{Asked, Outcome, apply, apply_step, apply_settled, apply_fault, change, changed, merged_as, deadline_of, recover, saved_on, stays}
use Rattle.engine_model.specs.Stations.{Ends}
use Rattle.engine_model.specs.Answers.{IsTaken, Finds}
use Rattle.engine_model.specs.Failing.{Fails}
use Rattle.engine_model.proofs.lemmas.Failing.{fails_rose}
use Rattle.engine_model.specs.Faults.{ApplyExact, IsOutcome, IsMade, BackExact}
use Rattle.engine_model.specs.declared.answers.Left.{Left}
use Rattle.engine_model.specs.declared.answers.Left.TheVariants.{NotBegun, RolledBack, Pending}
use Rattle.engine_model.specs.declared.answers.Applied.{Applied}
use Rattle.engine_model.specs.declared.answers.Recovered.{Recovered}
use Rattle.engine_model.specs.declared.answers.BackFault.{BackFault}
use Rattle.engine_model.specs.declared.answers.BackFault.TheVariants as ba
use Rattle.engine_model.specs.declared.answers.ApplyFault.{ApplyFault}
use Rattle.engine_model.specs.declared.answers.ApplyFault.TheVariants as ap_
use Rattle.engine_core.specs.declared.missed.Missed.{Missed}
use Rattle.engine_core.specs.declared.missed.Missed.TheVariants as missed
use Rattle.engine_core.specs.Attempts.{done, IsFault}
use Rattle.engine_core.specs.Applying.{Hurt}
use Rattle.engine_core.specs.Saying.{taken_back_as, pending_as, damaged_as, stopped_as}
use Rattle.engine_core.proofs.Applies.{Made, made_as, done_is, answers_as}
use Rattle.host_core.proofs.lemmas.Counts.{rose_after, rose_before}
use Rattle.engine_model.proofs.lemmas.Backs.{recover_empty}
use Rattle.engine_model.proofs.lemmas.Finding.{recover_exact, found_saved}
use Rattle.checkpoint_cell.specs.Settled.{taken_back}
use Rattle.engine_model.specs.Machine.{recover_cell, restore, restored_as}
use Rattle.engine_model.specs.declared.answers.Recovered.TheVariants.{Nothing, Waiting as Waits_for, Restored}

-- ---- where the change is taken back

-- it was
pub taken_hurt : (start old : ℕ) (to : NetData) (new : HostView) (why : Missed) → IsFault why → (why ≡ missed.Failed → Rose start old) → old ≤ new.faults → Hurt (Rose start new.faults) to new (taken_back_as why)
taken_hurt start old to new missed.Failed is rose later = rose_before start old new.faults (rose refl) later
taken_hurt start old to new missed.OutOfMemory is rose later = tt
taken_hurt start old to new (missed.Refused k n) is rose later = absurd is
taken_hurt start old to new missed.Damaged is rose later = absurd is
taken_hurt start old to new (missed.Differs found) is rose later = absurd is

-- a restoring meets no refused call
pub never_refused : (s : State) (cell : Option Checkpoint) → cell_of s.cell ≡ cell → (k n : ℕ) (left : Left) → ((c : Checkpoint) → cell_of s.cell ≡ Some c → Finds {A = Bool} (saved_on c.net s.net) (Err (ba.KernelRefused k n left)))
    → (cell_of s.cell ≡ None → ba.KernelRefused k n left ≡ ba.HostFault NotBegun) → ⊥
never_refused s None is k n left finds unset = let e : ba.KernelRefused k n left ≡ ba.HostFault NotBegun = unset is in cc
never_refused s (Some c) is k n left finds unset = finds c is

pending_hurt : (start old : ℕ) (to : NetData) (new : HostView) (fault : BackFault) → Rose start old → old ≤ new.faults → ((k n : ℕ) (left : Left) → fault ≡ ba.KernelRefused k n left → ⊥) → Hurt (Rose start new.faults) to new (pending_as fault)
pending_hurt start old to new ba.NoCheckpoint rose later accepted = rose_before start old new.faults rose later
pending_hurt start old to new (ba.HostFault left) rose later accepted = rose_before start old new.faults rose later
pending_hurt start old to new (ba.KernelRefused k n left) rose later accepted = absurd (accepted k n left refl)
pending_hurt start old to new (ba.Damaged area) rose later accepted = rose_before start old new.faults rose later
pending_hurt start old to new (ba.HardwareDiffers names) rose later accepted = rose_before start old new.faults rose later
pending_hurt start old to new ba.OutOfMemory rose later accepted = tt

-- it wasn't
pub stopped_hurt : (start old : ℕ) (to : NetData) (new : HostView) (why : Missed) (fault : BackFault) → IsFault why → (why ≡ missed.Failed → Rose start old) → old ≤ new.faults → ((k n : ℕ) (left : Left) → fault ≡ ba.KernelRefused k n left → ⊥)
    → Hurt (Rose start new.faults) to new (stopped_as why fault)
stopped_hurt start old to new missed.Failed fault is rose later accepted = pending_hurt start old to new fault (rose refl) later accepted
stopped_hurt start old to new missed.OutOfMemory fault is rose later accepted = tt
stopped_hurt start old to new (missed.Refused k n) fault is rose later accepted = absurd is
stopped_hurt start old to new missed.Damaged fault is rose later accepted = absurd is
stopped_hurt start old to new (missed.Differs found) fault is rose later accepted = absurd is

-- where the attempt succeeded, only the clearing may fail
pub finished_hurt : (start mid : ℕ) (to : NetData) (new : HostView) (result : Result Applied ApplyFault) → IfErr result (λ fault. fault ≡ ap_.InDoubt) → start ≤ mid → OnErr result (Rose mid new.faults) → HasNet (Some to) new
    → IfErr result (λ fault. Hurt (Rose start new.faults) to new fault)
finished_hurt start mid to new (Ok applied) doubt le rose nets = tt
finished_hurt start mid to new (Err fault) doubt le rose nets =
    subst (λ (f : ApplyFault). Hurt (Rose start new.faults) to new f) (sym doubt) (rose_after start mid new.faults le rose, nets)

-- ---- a change from what stands

changed_is : (a : Asked) (e : Standing) (from to : NetData) → e.net ≡ Some from → merge from a.doc ≡ Ok to → change a e e.net ≡ changed a from to
changed_is a e from to net merges = ap (change a e) net ∙ ap (λ (r : Result NetData Refused). merged_as a from r) merges

made_by : (a : Asked) (from to : NetData) (new : HostView) → HasNet (Some to) new → (b : Bool) → a.opts.no_commit ≡ b → IsMade (changed a from to) new
made_by a from to new nets true is = subst (λ (o : Made). IsMade o new) (ap (made_as a from to) (sym is)) (record { done = record { deadline = Some (deadline_of a) }; answer = refl; net = nets })
made_by a from to new nets false is = subst (λ (o : Made). IsMade o new) (ap (made_as a from to) (sym is)) (record { done = record { deadline = None }; answer = refl; net = nets })

made_of : (a : Asked) (from to : NetData) (new : HostView) (machine : Made) → machine ≡ changed a from to → HasNet (Some to) new → IsMade machine new
made_of a from to new machine is nets = subst (λ (o : Made). IsMade o new) (sym is) (made_by a from to new nets a.opts.no_commit refl)

-- where a change is made from this network
pub made_exact : (a : Asked) (e : Standing) (from to : NetData) (old new : HostView) (start : ℕ) (result : Result Applied ApplyFault) → e.net ≡ Some from → merge from a.doc ≡ Ok to → new.stops.may_leave new.state
    → start ≤ old.faults
    → IfOk result (λ applied. applied.deadline ≡ (if a.opts.no_commit then Some (deadline_of a) else None)) → OnOk result (Ends (done a.opts.no_commit a.now (deadline_of a) from to) new)
    → IfErr result (λ fault. Hurt (Rose old.faults new.faults) to new fault) → ApplyExact (Rose start new.faults) (change a e e.net) new result
made_exact a e from to old new start (Ok applied) net merges there le value ends hurt =
    let is = changed_is a e from to net merges in
    record { answer = ap (λ (o : Made). o.answer) is ∙ answers_as a from to applied a.opts.no_commit value; after = ends new.state there ∙ done_is a from to ∙ sym (ap (λ (o : Made). o.after) is) }
made_exact a e from to old new start (Err fault) net merges there le value ends hurt = hurt_exact fault hurt
  where
    is : change a e e.net ≡ changed a from to
    is = changed_is a e from to net merges

    hurt_exact : (fault : ApplyFault) → Hurt (Rose old.faults new.faults) to new fault → ApplyExact (Rose start new.faults) (change a e e.net) new (Err fault)
    hurt_exact (ap_.HostFault left) hurt = rose_after start old.faults new.faults le hurt
    hurt_exact ap_.InDoubt hurt = (rose_after start old.faults new.faults le hurt.0, made_of a from to new (change a e e.net) is hurt.1)
    hurt_exact (ap_.KernelRefused k n left) hurt = hurt
    hurt_exact (ap_.NotVerified found left) hurt = hurt
    hurt_exact (ap_.Damaged area) hurt = inl (rose_after start old.faults new.faults le hurt)
    hurt_exact (ap_.HardwareDiffers names) hurt = inl (rose_after start old.faults new.faults le hurt)
    hurt_exact ap_.OutOfMemory hurt = tt
    hurt_exact (ap_.Pending deadline) hurt = absurd hurt
    hurt_exact (ap_.MergeRefused refused) hurt = absurd hurt

-- a host that has no network
pub none_exact : (a : Asked) (e : Standing) (rose : Type 0) (new : HostView) → e.net ≡ None → standing new.state ≡ e → ApplyExact rose (change a e e.net) new (Err (ap_.Damaged 0))
none_exact a e rose new none same = let is = ap (change a e) none in inr (record { answer = ap (λ (o : Made). o.answer) is; after = same ∙ sym (ap (λ (o : Made). o.after) is) })

-- a document that breaks a rule
pub refused_exact : (a : Asked) (e : Standing) (from : NetData) (refused : Refused) (rose : Type 0) (new : HostView) → e ≡ restored_to from → merge from a.doc ≡ Err refused → standing new.state ≡ e → ApplyExact rose (change a e e.net) new (Err (ap_.MergeRefused refused))
refused_exact a e from refused rose new stood broken same =
    let is : change a e e.net ≡ stays (restored_to from) (Err (ap_.MergeRefused refused)) = ap (change a e) (ap (λ (x : Standing). x.net) stood) ∙ ap (λ (r : Result NetData Refused). merged_as a from r) broken in
    record { answer = ap (λ (o : Made). o.answer) is; after = same ∙ stood ∙ sym (ap (λ (o : Made). o.after) is) }

-- ---- of the whole

-- a call that began earlier, of a machine that is this one
pub exact_from : (machine whole : Made) → whole ≡ machine → (start mid : ℕ) (new : HostView) → start ≤ mid → (result : Result Applied ApplyFault) → ApplyExact (Rose mid new.faults) machine new result → ApplyExact (Rose start new.faults) whole new result
exact_from machine whole is start mid new le result exact = subst (λ (o : Made). ApplyExact (Rose start new.faults) o new result) (sym is) (earlier result exact)
  where
    earlier : (result : Result Applied ApplyFault) → ApplyExact (Rose mid new.faults) machine new result → ApplyExact (Rose start new.faults) machine new result
    earlier (Ok applied) exact = exact
    earlier (Err (ap_.Pending deadline)) exact = exact
    earlier (Err (ap_.MergeRefused refused)) exact = exact
    earlier (Err (ap_.HostFault left)) exact = rose_after start mid new.faults le exact
    earlier (Err ap_.InDoubt) exact = (rose_after start mid new.faults le exact.0, exact.1)
    earlier (Err (ap_.KernelRefused k n left)) exact = exact
    earlier (Err (ap_.NotVerified found left)) exact = exact
    earlier (Err (ap_.Damaged area)) (inl rose) = inl (rose_after start mid new.faults le rose)
    earlier (Err (ap_.Damaged area)) (inr is) = inr is
    earlier (Err (ap_.HardwareDiffers names)) (inl rose) = inl (rose_after start mid new.faults le rose)
    earlier (Err (ap_.HardwareDiffers names)) (inr is) = inr is
    earlier (Err ap_.OutOfMemory) exact = tt

module _ (a : Asked) (old : State) where
  -- where no checkpoint stood
  pub nothing_is : (mid : State) → cell_of old.cell ≡ None → mid ≡ old → apply a (standing old) ≡ change a (standing mid) mid.net
  nothing_is mid none same = ap (apply_step a) (recover_empty a.now old none) ∙ ap (λ (s : State). change a (standing s) s.net) (sym same)

  abbrev Recovery : Type 0
  Recovery = Outcome Recovered BackFault

  abbrev Found : Type 0
  Found = Result NetData BackFault

  taken_is : (t : IsTaken a.now (cell_of old.cell)) → recover a.now (standing old) ≡ restored_as Restored (standing old) (saved_on t.checkpoint.net old.net)
  taken_is t =
      ap (recover_cell a.now (standing old)) t.is
      ∙ ap (λ (b : Bool). if b then restore Restored (standing old) t.checkpoint else stays (standing old) (Ok (Waits_for t.checkpoint.deadline))) t.back

  -- what stands then is what stood
  pub nothing_after : cell_of old.cell ≡ None → (recover a.now (standing old)).after.net ≡ old.net
  nothing_after none = ap (λ (o : Recovery). o.after.net) (recover_empty a.now old none)

  -- and the network that was saved
  pub restored_after : (t : IsTaken a.now (cell_of old.cell)) (saved : NetData) → saved_on t.checkpoint.net old.net ≡ Ok saved → (recover a.now (standing old)).after ≡ restored_to saved
  restored_after t saved found = ap (λ (o : Recovery). o.after) (taken_is t ∙ ap (λ (r : Found). restored_as Restored (standing old) r) found)

  -- where one was taken back
  pub restored_is : (mid : State) (t : IsTaken a.now (cell_of old.cell)) (saved : NetData) → saved_on t.checkpoint.net old.net ≡ Ok saved → standing mid ≡ restored_to saved → apply a (standing old) ≡ change a (standing mid) mid.net
  restored_is mid t saved found same =
      ap (apply_step a) (taken_is t ∙ ap (λ (r : Found). restored_as Restored (standing old) r) found)
      ∙ ap (λ (x : Standing). change a x x.net) (sym same)

  fails_as : (r : Found) (fault : BackFault) → (restored_as Restored (standing old) r).answer ≡ Err fault → restored_as Restored (standing old) r ≡ stays (standing old) (Err fault)
  fails_as (Ok saved) fault is = cc
  fails_as (Err why) fault is = let same : why ≡ fault = cc in ap (λ (f : BackFault). stays (standing old) (Err f)) same

  fails_by : (c : Checkpoint) (fault : BackFault) (b : Bool)
      → (if b then restore Restored (standing old) c else stays (standing old) (Ok (Waits_for c.deadline))).answer ≡ Err fault
      → (if b then restore Restored (standing old) c else stays (standing old) (Ok (Waits_for c.deadline))) ≡ stays (standing old) (Err fault)
  fails_by c fault true is = fails_as (saved_on c.net old.net) fault is
  fails_by c fault false is = cc

  fails_cell : (cell : Option Checkpoint) (fault : BackFault) → (recover_cell a.now (standing old) cell).answer ≡ Err fault → recover_cell a.now (standing old) cell ≡ stays (standing old) (Err fault)
  fails_cell None fault is = cc
  fails_cell (Some c) fault is = fails_by c fault (taken_back a.now c.phase c.made c.deadline) is

  -- where the settling found what it can't go back to
  fault_is : (fault : BackFault) (new : HostView) → (recover a.now (standing old)).answer ≡ Err fault → new.state ≡ old → IsOutcome (apply a (standing old)) new (Err (apply_fault fault))
  fault_is fault new is same =
      let there = ap (apply_step a) (fails_cell (cell_of old.cell) fault is) in
      record { answer = ap (λ (o : Made). o.answer) there; after = ap standing same ∙ sym (ap (λ (o : Made). o.after) there) }

  pub unsettled_exact : (tells : Type 0) → tells → (from new : HostView) → from.state ≡ old → (fault : BackFault) → Fails tells from new fault → BackExact (recover a.now (standing old)).answer (Err fault)
      → ApplyExact (Rose from.faults new.faults) (apply a (standing old)) new (Err (apply_fault fault))
  unsettled_exact tells told from new is ba.NoCheckpoint fails exact = absurd fails
  unsettled_exact tells told from new is (ba.HostFault left) fails exact = fails_rose tells from new left fails
  unsettled_exact tells told from new is (ba.KernelRefused k n left) fails exact = exact
  unsettled_exact tells told from new is (ba.Damaged area) fails exact = inr (fault_is (ba.Damaged area) new exact (fails.0.same told ∙ is))
  unsettled_exact tells told from new is (ba.HardwareDiffers names) fails exact = inr (fault_is (ba.HardwareDiffers names) new exact (fails.0.same told ∙ is))
  unsettled_exact tells told from new is ba.OutOfMemory fails exact = tt
