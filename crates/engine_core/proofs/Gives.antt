-- What an apply leaves, by how its parts end.
use Rattle.std.proofs.Common.{◌≡◌, inl, inr, ℕ, ◌≤◌, arith, refl, sym, ap, ◌∙◌, subst, Bool, true, false, Some, Result, Ok, Err}
use Rattle.net_model.specs.NetData.{NetData}
use Rattle.host_core.specs.Faults.{Rose}
use Rattle.host_core.proofs.lemmas.Counts.{rose_after, rose_before, rose_twice, twice_after}
use Rattle.host_core.specs.HostView.{HostView, HasNet}
use Rattle.checkpoint_cell.specs.Settled.{Standing, standing}
use Rattle.engine_model.specs.Undone.{undone, stand}
use Rattle.std.specs.Prelude.{OnOk, IfErr}
use Rattle.engine_model.specs.Stations.{Near, Only, Leads, IsSettled, Kept, Ends, AllNear, FromRead}
use Rattle.checkpoint_cell.specs.Settled.{restored_to}
use Rattle.engine_model.specs.Answers.{IsHealthy, IsBefore, IsTaken}
use Rattle.checkpoint_cell.specs.Cell.{saved_net, cell_of}
use Rattle.checkpoint_cell.specs.Steps.{Holds}
use Rattle.checkpoint_cell.proofs.lemmas.Saved.{saved_is}
use Rattle.engine_model.specs.Machine.{Asked, apply_fault, deadline_of}
use Rattle.engine_model.specs.Failing.{Fails}
use Rattle.engine_model.proofs.lemmas.Failing.{fails_rose}
use Rattle.engine_core.specs.Attempts.{sealed, done, IsEither, IsFault, IsOnWay}
use Rattle.engine_core.specs.Saying.{taken_back_as, pending_as, stopped_as}
use Rattle.engine_core.specs.Applying.{GaveUp, Exit, Change, IsStation, IsApplied, AfterSettling, Unsettled, ExitApply}
use Rattle.engine_model.specs.declared.answers.Left.{Left}
use Rattle.engine_model.specs.declared.answers.Left.TheVariants.{NotBegun, RolledBack, Pending}
use Rattle.engine_model.specs.declared.answers.BackFault.{BackFault}
use Rattle.engine_model.specs.declared.answers.BackFault.TheVariants as back
use Rattle.engine_core.specs.declared.missed.Missed.{Missed}
use Rattle.engine_core.specs.declared.missed.Missed.TheVariants as missed
use Rattle.engine_model.specs.declared.answers.ApplyFault.{ApplyFault}
use Rattle.engine_model.specs.declared.answers.ApplyFault.TheVariants.{HostFault, OutOfMemory}
use Rattle.engine_model.specs.declared.answers.ApplyFault.TheVariants as fault
use Rattle.engine_model.proofs.lemmas.Leading.{alike_is, saved_alike, kept_on, kept_wider}
use Rattle.host_core.specs.Stops.{Steps, Stays}
use Rattle.engine_model.specs.declared.answers.Applied.{Applied}

pub one_way : (e a b : Standing) → undone e ≡ Some a → undone e ≡ Some b → a ≡ b
one_way e a b one two = let f : Some a ≡ Some b = sym one ∙ two in cc

-- where the change is taken back
pub taken_exit : (from : NetData) (faults : ℕ) (why : Missed) (new : HostView) → IsFault why → Ends (restored_to from) new → GaveUp from faults (taken_back_as why) new
taken_exit from faults missed.Failed new is ends = ends
taken_exit from faults missed.OutOfMemory new is ends = tt
taken_exit from faults (missed.Refused k n) new is ends = absurd is
taken_exit from faults missed.Damaged new is ends = absurd is
taken_exit from faults (missed.Differs found) new is ends = absurd is

pending_exit : (tells : Type 0) (from : NetData) (old new : HostView) (fault : BackFault) → IsHealthy fault → Fails tells old new fault → GaveUp from old.faults (pending_as fault) new
pending_exit tells from old new back.NoCheckpoint healthy fails = absurd fails
pending_exit tells from old new (back.HostFault left) healthy fails = fails_rose tells old new left fails
pending_exit tells from old new (back.KernelRefused k n left) healthy fails = absurd healthy
pending_exit tells from old new (back.Damaged area) healthy fails = absurd healthy
pending_exit tells from old new (back.HardwareDiffers names) healthy fails = absurd healthy
pending_exit tells from old new back.OutOfMemory healthy fails = tt

-- where its restoring fails
pub stopped_exit : (tells : Type 0) (from : NetData) (old new : HostView) (why : Missed) (fault : BackFault) → IsFault why → IsHealthy fault → Fails tells old new fault → GaveUp from old.faults (stopped_as why fault) new
stopped_exit tells from old new missed.OutOfMemory fault is healthy fails = tt
stopped_exit tells from old new missed.Failed fault is healthy fails = pending_exit tells from old new fault healthy fails
stopped_exit tells from old new (missed.Refused k n) fault is healthy fails = absurd is
stopped_exit tells from old new missed.Damaged fault is healthy fails = absurd is
stopped_exit tells from old new (missed.Differs found) fault is healthy fails = absurd is

-- the network that was saved stands in its place
pub sealed_net : (no_commit : Bool) (made deadline : ℕ) (from : NetData) (host : HostView) → Holds (sealed no_commit made deadline from) host → saved_net host.state.cell ≡ Some from
sealed_net true made deadline from host holds = saved_is _ host.state.cell holds.cell
sealed_net false made deadline from host holds = saved_is _ host.state.cell holds.cell

module _ (asked : Asked) (before : Standing) (change : Change asked before) (old mid : ℕ) (new : HostView) (onway : AllNear (IsOnWay asked.opts.no_commit asked.now (deadline_of asked) change.from change.to) new) where
  failed_exit : (fault : ApplyFault) → Rose old mid → mid ≤ new.faults → GaveUp change.from mid fault new → Exit asked before old (Err fault) new
  failed_exit (HostFault RolledBack) rose later gave = subst (λ (x : Standing). Ends x new) (sym change.stood) gave
  failed_exit (HostFault Pending) rose later gave = (rose_twice old mid new.faults rose gave, (change, onway))
  failed_exit (HostFault NotBegun) rose later gave = absurd gave
  failed_exit OutOfMemory rose later gave = inr (rose_before old mid new.faults rose later, (change, onway))
  failed_exit (fault.Pending deadline) rose later gave = absurd gave
  failed_exit (fault.MergeRefused r) rose later gave = absurd gave
  failed_exit (fault.KernelRefused k n left) rose later gave = absurd gave
  failed_exit (fault.NotVerified found left) rose later gave = absurd gave
  failed_exit fault.InDoubt rose later gave = absurd gave
  failed_exit (fault.Damaged area) rose later gave = absurd gave
  failed_exit (fault.HardwareDiffers names) rose later gave = absurd gave

  pub gave_up_exit : (why : Missed) (fault : ApplyFault) → IsFault why → (why ≡ missed.Failed → Rose old mid) → mid ≤ new.faults → (why ≡ missed.OutOfMemory → fault ≡ OutOfMemory)
      → (why ≡ missed.OutOfMemory → AllNear (Only before) new) → GaveUp change.from mid fault new → Exit asked before old (Err fault) new
  gave_up_exit missed.Failed fault is rose later memory near gave = failed_exit fault (rose refl) later gave
  gave_up_exit missed.OutOfMemory fault is rose later memory near gave = subst (λ (a : ApplyFault). Exit asked before old (Err a) new) (sym (memory refl)) (inl (near refl))
  gave_up_exit (missed.Refused k n) fault is rose later memory near gave = absurd is
  gave_up_exit missed.Damaged fault is rose later memory near gave = absurd is
  gave_up_exit (missed.Differs found) fault is rose later memory near gave = absurd is

pub sealed_near : (no_commit : Bool) (made deadline : ℕ) (from to : NetData) → Near (IsEither no_commit made deadline from to) (stand to (sealed no_commit made deadline from))
sealed_near true made deadline from to = record { station = done true made deadline from to; is = inr refl; like = alike_is _ (stand to (sealed true made deadline from)) refl }
sealed_near false made deadline from to = record { station = restored_to from; is = inl refl; like = saved_alike made deadline from (stand to (sealed false made deadline from)) refl }

pub way_either : (no_commit : Bool) (made deadline : ℕ) (from to : NetData) (a : Standing) → IsOnWay no_commit made deadline from to a → IsEither no_commit made deadline from to a
way_either no_commit made deadline from to a (inl is) = inl is
way_either no_commit made deadline from to a (inr (waits, is)) = inr (is ∙ (λ i. done (sym waits i) made deadline from to))

pub left_exit : (asked : Asked) (before : Standing) (faults : ℕ) (left : Left) (new : HostView) → (left ≡ Pending → ⊥) → Ends before new → Exit asked before faults (Err (HostFault left)) new
left_exit asked before faults NotBegun new not ends = ends
left_exit asked before faults RolledBack new not ends = ends
left_exit asked before faults Pending new not ends = absurd (not refl)

-- a call that began earlier
pub exit_later : (asked : Asked) (before : Standing) (old mid : ℕ) (result : Result Applied ApplyFault) (new : HostView) → old ≤ mid → Exit asked before mid result new → Exit asked before old result new
exit_later asked before old mid (Ok applied) new le exit = exit
exit_later asked before old mid (Err (HostFault NotBegun)) new le exit = exit
exit_later asked before old mid (Err (HostFault RolledBack)) new le exit = exit
exit_later asked before old mid (Err (HostFault Pending)) new le exit = (twice_after old mid new.faults le exit.0, exit.1)
exit_later asked before old mid (Err OutOfMemory) new le (inl near) = inl near
exit_later asked before old mid (Err OutOfMemory) new le (inr way) = inr (rose_after old mid new.faults le way.0, way.1)
exit_later asked before old mid (Err (fault.Pending deadline)) new le exit = exit
exit_later asked before old mid (Err (fault.MergeRefused r)) new le exit = exit
exit_later asked before old mid (Err (fault.KernelRefused k n left)) new le exit = exit
exit_later asked before old mid (Err (fault.NotVerified found left)) new le exit = exit
exit_later asked before old mid (Err fault.InDoubt) new le exit = exit
exit_later asked before old mid (Err (fault.Damaged area)) new le exit = exit
exit_later asked before old mid (Err (fault.HardwareDiffers names)) new le exit = exit

-- an exit after settling
pub settled_exit : (asked : Asked) (entry : HostView) (result : Result Applied ApplyFault) (new : HostView) → AfterSettling asked entry result new → ExitApply asked entry result new
settled_exit asked entry (Ok applied) new exit = exit
settled_exit asked entry (Err (HostFault NotBegun)) new exit = inr exit
settled_exit asked entry (Err (HostFault RolledBack)) new exit = exit
settled_exit asked entry (Err (HostFault Pending)) new exit = inr exit
settled_exit asked entry (Err OutOfMemory) new exit = inr exit
settled_exit asked entry (Err (fault.Pending deadline)) new exit = absurd exit.2
settled_exit asked entry (Err (fault.MergeRefused r)) new exit = exit
settled_exit asked entry (Err (fault.KernelRefused k n left)) new exit = exit
settled_exit asked entry (Err (fault.NotVerified found left)) new exit = exit
settled_exit asked entry (Err fault.InDoubt) new exit = exit
settled_exit asked entry (Err (fault.Damaged area)) new exit = exit
settled_exit asked entry (Err (fault.HardwareDiffers names)) new exit = exit

-- an exit from the settling itself
module _ (asked : Asked) (entry new : HostView) (during : Steps (Leads (IsSettled asked.now entry.state)) entry.stops new.stops) where
  on_way : IsTaken asked.now (cell_of entry.state.cell) → FromRead (IsSettled asked.now entry.state) entry new → Unsettled asked entry new
  on_way taken going = record { taken = taken; during = during; going = going }

  pub unsettled_exit : (tells : Type 0) (why : BackFault) → IsHealthy why → Fails tells entry new why → (why ≡ back.HostFault Pending → IsTaken asked.now (cell_of entry.state.cell)) → (why ≡ back.OutOfMemory → IsTaken asked.now (cell_of entry.state.cell))
      → ((IsBefore why → ⊥) → FromRead (IsSettled asked.now entry.state) entry new) → ExitApply asked entry (Err (apply_fault why)) new
  unsettled_exit tells back.NoCheckpoint healthy fails pending memory going = absurd fails
  unsettled_exit tells (back.HostFault NotBegun) healthy fails pending memory going = inl fails.1.stops
  unsettled_exit tells (back.HostFault RolledBack) healthy fails pending memory going = absurd healthy
  unsettled_exit tells (back.HostFault Pending) healthy fails pending memory going = inl (on_way (pending refl) (going (λ x. x)))
  unsettled_exit tells (back.KernelRefused k n left) healthy fails pending memory going = absurd healthy
  unsettled_exit tells (back.Damaged area) healthy fails pending memory going = absurd healthy
  unsettled_exit tells (back.HardwareDiffers names) healthy fails pending memory going = absurd healthy
  unsettled_exit tells back.OutOfMemory healthy fails pending memory going = inl (on_way (memory refl) (going (λ x. x)))

pub change_exit : (asked : Asked) (before stood : Standing) (old mid : ℕ) (result : Result Applied ApplyFault) (new : HostView) → before ≡ stood → old ≤ mid → Exit asked stood mid result new → Exit asked before old result new
change_exit asked before stood old mid result new is le exit = exit_later asked before old mid result new le (subst (λ (b : Standing). Exit asked b mid result new) (sym is) exit)

-- where a change ends, after settling
pub either_station : (asked : Asked) (before : Standing) (change : Change asked before) (deadline : ℕ) → deadline ≡ deadline_of asked → (a : Standing) → IsEither asked.opts.no_commit asked.now deadline change.from change.to a → IsStation asked before a
either_station asked before change deadline same a (inl is) = inl (is ∙ sym change.stood)
either_station asked before change deadline same a (inr is) = inr (change, is ∙ (λ i. done asked.opts.no_commit asked.now (same i) change.from change.to))

pub now_ends : (stands : Standing) (mid : HostView) → mid.stops.may_leave mid.state → Ends stands mid → Ends (standing mid.state) mid
now_ends stands mid here ends s left = ends s left ∙ sym (ends mid.state here)

module _ (asked : Asked) (entry mid new : HostView) (here : mid.stops.may_leave mid.state) (done_so : (stands : Standing) × IsSettled asked.now entry.state stands × Ends stands mid) where
  stood : IsSettled asked.now entry.state (standing mid.state)
  stood = done_so.1 ∙ ap (λ (x : Standing). Some x) (sym (done_so.2 mid.state here))

  pub after_exit : (result : Result Applied ApplyFault) → entry.faults ≤ mid.faults → Exit asked (standing mid.state) mid.faults result new → ExitApply asked entry result new
  after_exit result le exit = settled_exit asked entry result new (standing mid.state, stood, exit_later asked (standing mid.state) entry.faults mid.faults result new le exit)

  pub after_kept : Kept (IsSettled asked.now entry.state) entry mid → Kept (IsStation asked (standing mid.state)) mid new → Kept (IsApplied asked entry.state) entry new
  after_kept one two = kept_on (IsApplied asked entry.state) entry mid new
      (kept_wider (IsSettled asked.now entry.state) (IsApplied asked entry.state) (λ a is. inl is) entry mid one)
      (kept_wider (IsStation asked (standing mid.state)) (IsApplied asked entry.state) (λ a is. inr (standing mid.state, stood, is)) mid new two)

-- where the attempt succeeded
pub finished_exit : (asked : Asked) (before : Standing) (change : Change asked before) (faults : ℕ) (result : Result Applied ApplyFault) (new : HostView)
    → OnOk result (Ends (done asked.opts.no_commit asked.now (deadline_of asked) change.from change.to) new) → IfErr result (λ why. why ≡ fault.InDoubt) → HasNet (Some change.to) new
    → AllNear (IsEither asked.opts.no_commit asked.now (deadline_of asked) change.from change.to) new → Exit asked before faults result new
finished_exit asked before change faults (Ok applied) new ends doubt nets near = (change, ends)
finished_exit asked before change faults (Err why) new ends doubt nets near = subst (λ (a : ApplyFault). Exit asked before faults (Err a) new) (sym doubt) (change, nets, near)
