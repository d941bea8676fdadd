-- What a look at a node tells of it.
use Rattle.std.proofs.Common.{◌≡◌, inr, ℕ, ◌<◌, ◌≤◌, Bool, true, false, refl, ap, sym, subst, Option, Some, None, Result, Ok, Err, arith}
use Rattle.std.specs.Prelude.{if◌then◌else◌, not, leb, ltb}
use Rattle.std.proofs.lemmas.Bool.{or_parts, leb-false, ltb-false, eq-eqb}
use Rattle.document_model.specs.declared.Doc.{Doc}
use Rattle.host_core.specs.Faults.{Rose}
use Rattle.host_core.specs.HostView.{HostView, IsLawfulHost}
use Rattle.checkpoint_cell.specs.Cell.{Checkpoint, cell_of, is_due}
use Rattle.checkpoint_cell.specs.declared.Phase.TheVariants.{Waiting}
use Rattle.checkpoint_cell.specs.declared.Seen.TheVariants.{Set}
use Rattle.checkpoint_cell.specs.Settled.{Standing, standing}
use Rattle.engine_model.specs.Machine.{deadline_of, waiting}
use Rattle.engine_model.specs.Stations.{Stands, Within, Kept, left_by}
use Rattle.engine_model.proofs.lemmas.Leading.{kept_stays}
use Rattle.engine_model.proofs.lemmas.Machines.{before_within}
use Rattle.engine_model.specs.declared.answers.Checked.{Checked}
use Rattle.engine_model.specs.declared.answers.CheckFault.{CheckFault}
use Rattle.engine_model.specs.declared.answers.CheckFault.TheVariants as ch
use Rattle.rollout_model.specs.declared.node.NodeState.{NodeState}
use Rattle.rollout_model.specs.declared.node.NodeState.TheVariants.{Fresh, Opened, Probed}
use Rattle.rollout_model.specs.declared.node.Event.{Event}
use Rattle.rollout_model.specs.declared.node.Event.TheVariants as ev
use Rattle.rollout_model.proofs.lemmas.Rolling.{looked_to}
use Rattle.rollout_core.specs.Answers.{in_time, probing}
use Rattle.rollout_core.specs.Calls.{Looks}
use Rattle.rollout_core.specs.Causes.{Comes, InTime, IsDue}
use Rattle.rollout_core.specs.Did.{change}
use Rattle.rollout_core.specs.Places.{Waits, WaitsSince, Once, Station, AtRest, ReadsAs, BegunBy, NodeHolds}
use Rattle.rollout_core.specs.Trace.{is_good_of}
use Rattle.rollout_core.proofs.Near.{near_self, widen, through, station_good, goes_on}
use Rattle.rollout_core.proofs.Probing.{look_sees, look_whole, look_same}

-- the moment of a change that isn't due
pub time_left : (made deadline now : ℕ) → is_due made deadline now ≡ false → (made ≤ now) × (now < deadline)
time_left made deadline now not_so =
    let parts = or_parts (leb deadline now) (ltb now made) not_so in
    (ltb-false now made parts.1, leb-false deadline now parts.0)

-- where a change waits that was begun at some moment
pub record Waited (doc : Doc) (timeout : ℕ) (stood reads : Standing) (begun : Option ℕ) : Type 0 where
  pub at : ℕ
  pub is : begun ≡ Some at
  pub waits : Waits doc timeout stood at reads

pub waited : (doc : Doc) (timeout : ℕ) (stood reads : Standing) (begun : Option ℕ) → WaitsSince doc timeout stood begun reads → Waited doc timeout stood reads begun
waited doc timeout stood reads None waits = absurd waits
waited doc timeout stood reads (Some at) waits = record { at = at; is = refl; waits = waits }

-- the moments of a node that was begun then
pub in_time_at : (doc : Doc) (timeout : ℕ) (begun : Option ℕ) (at now : ℕ) → begun ≡ Some at → is_due at (deadline_of (change doc timeout at)) now ≡ false → InTime timeout begun now
in_time_at doc timeout begun at now is not_so =
    let parts = time_left at (deadline_of (change doc timeout at)) now not_so in
    subst (λ (b : Option ℕ). InTime timeout b now) (sym is) (parts.0, omega (arith, parts.1))

pub due_at : (doc : Doc) (timeout : ℕ) (begun : Option ℕ) (at now : ℕ) → begun ≡ Some at → is_due at (deadline_of (change doc timeout at)) now ≡ true → IsDue doc timeout begun now
due_at doc timeout begun at now is sure = subst (λ (b : Option ℕ). IsDue doc timeout b now) (sym is) sure

module _ (tells honest : Type 0) (trust : honest) (told : tells) (doc : Doc) (timeout now i : ℕ) (begun : Option ℕ) (good : Bool) (first old new : HostView)
    (lawful : IsLawfulHost tells old) (before : NodeHolds doc timeout begun good Opened first old) where
  abbrev stood : Standing
  stood = standing first.state

  w : Waited doc timeout stood (standing old.state) begun
  w = waited doc timeout stood (standing old.state) begun before.reads

  -- the state that an event leads to, where the node was found good by then or not
  pub record After (later : Bool) (event : Event) : Type 0 where
    pub holds : NodeHolds doc timeout begun later (looked_to event) first new
    pub comes : Comes doc timeout begun first new now event

  module _ (answer : Result Checked CheckFault) (call : Looks tells honest old new answer) where
    same : standing new.state ≡ standing old.state
    same = ap standing (call.same told)

    kept : (P : Stands) → Kept P old new
    kept P = kept_stays P old new before.sound call.stays

    left : Within (left_by new) (WaitsSince doc timeout stood begun)
    left = through (WaitsSince doc timeout stood begun) old new before.left (before_within old new call.stays)

    held : (later : Bool) → (good ≡ true → later ≡ true) → (to : NodeState) → ReadsAs doc timeout stood begun later to (standing new.state) → Within (left_by new) (AtRest doc timeout stood begun later to) → (to ≡ Fresh → ⊥)
        → NodeHolds doc timeout begun later to first new
    held later up to reads left_ some =
        goes_on doc timeout first old new begun good Opened before begun later (station_good doc timeout stood begun good later up) (Station doc timeout stood begun later) (kept (Station doc timeout stood begun later))
        (λ b is. near_self (Station doc timeout stood begun later) b is) to (by to some) reads left_ call.later
      where
        by : (s : NodeState) → (s ≡ Fresh → ⊥) → BegunBy s begun
        by Fresh not_so = absurd (not_so refl)
        by s not_so = tt

    opened : (later : Bool) → (good ≡ true → later ≡ true) → NodeHolds doc timeout begun later Opened first new
    opened later up = held later up Opened (subst (λ (s : Standing). WaitsSince doc timeout stood begun s) (sym same) before.reads) left (λ e. cc)

    probed : (later : Bool) → (good ≡ true → later ≡ true) → later ≡ true → NodeHolds doc timeout begun later Probed first new
    probed later up sure = held later up Probed
        (sure, subst (λ (s : Standing). WaitsSince doc timeout stood begun s) (sym same) before.reads)
        (widen (left_by new) (WaitsSince doc timeout stood begun) (Once doc timeout stood later (WaitsSince doc timeout stood begun)) (λ b is. (sure, is)) left)
        (λ e. cc)

    rose_since : Rose old.faults new.faults → Rose first.faults new.faults
    rose_since rose = omega (arith, before.later, rose)

    -- one that didn't find it good
    stays_open : (later : Bool) → (good ≡ true → later ≡ true) → (event : Event) → looked_to event ≡ Opened → Comes doc timeout begun first new now event → After later event
    stays_open later up event is comes = record { holds = subst (λ (s : NodeState). NodeHolds doc timeout begun later s first new) (sym is) (opened later up); comes = comes }

  abbrev checkpoint : Checkpoint
  checkpoint = waiting (change doc timeout w.at) w.waits.0

  is_set : cell_of old.state.cell ≡ Some checkpoint
  is_set = ap (λ (s : Standing). s.cell) w.waits.3

  -- what was seen
  seen : (checked : Checked) → Looks tells honest old new (Ok checked) → checked.cell ≡ Set Waiting w.at (deadline_of (change doc timeout w.at))
  seen checked call = look_sees tells honest trust told old new lawful before.sound checkpoint is_set checked call

  by_time : (checked : Checked) → (call : Looks tells honest old new (Ok checked)) → (b : Bool) → is_due w.at (deadline_of (change doc timeout w.at)) now ≡ b
      → (later : Bool) → (good ≡ true → later ≡ true) → (is_good_of i (if not b then ev.Good i else ev.Bad i) ≡ true → later ≡ true) → After later (if not b then ev.Good i else ev.Bad i)
  by_time checked call true due later up sure = stays_open (Ok checked) call later up (ev.Bad i) refl (due_at doc timeout begun w.at now w.is due)
  by_time checked call false due later up sure = record {
    holds = probed (Ok checked) call later up (sure (eq-eqb i i refl));
    comes = in_time_at doc timeout begun w.at now w.is due;
  }

  -- what a look tells, where by then the node was found good by it or before
  pub of_answer : (answer : Result Checked CheckFault) → Looks tells honest old new answer → (later : Bool) → (good ≡ true → later ≡ true) → (is_good_of i (probing now i answer) ≡ true → later ≡ true)
      → After later (probing now i answer)
  of_answer (Ok checked) call later up sure =
      let b = is_due w.at (deadline_of (change doc timeout w.at)) now in
      let is : in_time now checked.cell ≡ not b = ap (in_time now) (seen checked call) in
      let event : probing now i (Ok checked) ≡ (if not b then ev.Good i else ev.Bad i) = ap (λ (t : Bool). if t then ev.Good i else ev.Bad i) is in
      subst (λ (e : Event). After later e) (sym event) (by_time checked call b refl later up (subst (λ (e : Event). is_good_of i e ≡ true → later ≡ true) event sure))
  of_answer (Err ch.HostFault) call later up sure = stays_open (Err ch.HostFault) call later up (ev.Unclear i) refl (inr (rose_since (Err ch.HostFault) call call.says))
  of_answer (Err (ch.Damaged area)) call later up sure = absurd (look_whole tells honest trust told old new lawful before.sound checkpoint is_set area call)
  of_answer (Err (ch.HardwareDiffers names)) call later up sure = absurd (look_same tells honest trust told old new lawful before.sound checkpoint is_set names call)
  of_answer (Err ch.OutOfMemory) call later up sure = stays_open (Err ch.OutOfMemory) call later up (ev.Starved i) refl tt
