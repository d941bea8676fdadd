-- What a commit makes of a node, by its answer.
use Rattle.std.proofs.Common.{◌≡◌, inl, inr, ◌∙◌, ℕ, ◌≤◌, Bool, true, false, refl, ap, sym, subst, Option, Some, Result, Ok, Err, arith}
use Rattle.std.specs.Prelude.{if◌then◌else◌, ⊤}
use Rattle.std.proofs.lemmas.Bool.{cases_Bool}
use Rattle.document_model.specs.declared.Doc.{Doc}
use Rattle.host_core.specs.Faults.{Rose}
use Rattle.host_core.specs.HostView.{HostView}
use Rattle.checkpoint_cell.specs.Cell.{is_due}
use Rattle.checkpoint_cell.specs.Settled.{Standing, standing, restored_to}
use Rattle.engine_model.specs.Machine.{Outcome, stays, deadline_of, waiting, commit}
use Rattle.engine_model.specs.Undone.{stand}
use Rattle.engine_model.specs.Stations.{Stands, Near, Within, Only, Either, Before, BeforeAsRead, Kept, entry_of, left_by, at}
use Rattle.engine_model.specs.Faults.{IsOutcome}
use Rattle.engine_model.specs.declared.answers.CommitFault.{CommitFault}
use Rattle.engine_model.specs.declared.answers.CommitFault.TheVariants as co
use Rattle.rollout_model.specs.declared.node.NodeState.{NodeState}
use Rattle.rollout_model.specs.declared.node.NodeState.TheVariants.{Fresh, Probed, Committed, Doubt}
use Rattle.rollout_model.specs.declared.node.Event.{Event}
use Rattle.rollout_model.specs.declared.node.Event.TheVariants as ev
use Rattle.rollout_model.proofs.lemmas.Rolling.{closed_to}
use Rattle.rollout_core.specs.Answers.{closing}
use Rattle.rollout_core.specs.Calls.{Commits}
use Rattle.rollout_core.specs.Causes.{Comes}
use Rattle.rollout_core.specs.Did.{change}
use Rattle.rollout_core.specs.Places.{WaitsSince, Merged, Once, Station, AtRest, ReadsAs, BegunBy, NodeHolds}
use Rattle.rollout_core.proofs.Looking.{Waited, waited, in_time_at, due_at}
use Rattle.rollout_core.proofs.Near.{near_self, widen, within_bind, through, goes_on}
use Rattle.engine_model.proofs.lemmas.Leading.{near_wider}

abbrev Closed : Type 0
Closed = Outcome ⊤ CommitFault

module _ (tells honest : Type 0) (told : tells) (doc : Doc) (timeout now i : ℕ) (begun : Option ℕ) (good : Bool) (first old new : HostView) (before : NodeHolds doc timeout begun good Probed first old) where
  abbrev stood : Standing
  stood = standing first.state

  abbrev was : Standing
  was = standing old.state

  w : Waited doc timeout stood was begun
  w = waited doc timeout stood was begun before.reads.1

  abbrev due : Bool
  due = is_due w.at (deadline_of (change doc timeout w.at)) now

  abbrev waiting_one : Standing
  waiting_one = stand w.waits.1 (Some (waiting (change doc timeout w.at) w.waits.0))

  abbrev late : Result ⊤ CommitFault
  late = Err (co.Expired w.at (deadline_of (change doc timeout w.at)))

  abbrev ended : Closed
  ended = record { answer = Ok tt; after = restored_to w.waits.1 }

  abbrev by_time : Bool → Closed
  by_time d = if d then stays waiting_one late else ended

  -- what the machine makes of it
  machine : (d : Bool) → due ≡ d → commit now was ≡ by_time d
  machine d is = ap (commit now) w.waits.3 ∙ ap by_time is

  abbrev P : Stands
  P = Station doc timeout stood begun good

  merged : (b : Standing) → b ≡ restored_to w.waits.1 → Once doc timeout stood good (Merged doc timeout stood) b
  merged b is = (before.reads.0, (w.waits.0, w.waits.1, w.waits.2, is))

  -- as it waits
  as_waits : (b : Standing) → b ≡ was → WaitsSince doc timeout stood begun b
  as_waits b is = subst (λ (s : Standing). WaitsSince doc timeout stood begun s) (sym is) before.reads.1

  by_due : (d : Bool) → due ≡ d → (b : Standing) → b ≡ (commit now was).after → P b
  by_due true is b after = inr (inl (as_waits b (after ∙ ap (λ (o : Closed). o.after) (machine true is) ∙ sym w.waits.3)))
  by_due false is b after = inr (inr (merged b (after ∙ ap (λ (o : Closed). o.after) (machine false is))))

  after_is : (b : Standing) → b ≡ (commit now was).after → P b
  after_is = by_due due refl

  module _ (kept : Kept (Only (commit now was).after) old new) (later : old.faults ≤ new.faults) where
    pub record After (event : Event) : Type 0 where
      pub holds : NodeHolds doc timeout begun good (closed_to event) first new
      pub comes : Comes doc timeout begun first new now event

    held : (to : NodeState) → ReadsAs doc timeout stood begun good to (standing new.state) → Within (left_by new) (AtRest doc timeout stood begun good to) → (to ≡ Fresh → ⊥) → NodeHolds doc timeout begun good to first new
    held to reads left some =
        goes_on doc timeout first old new begun good Probed before begun good (λ a is. is) (Only (commit now was).after) kept (λ b is. near_self P b (after_is b is)) to (by to some) reads left later
      where
        by : (s : NodeState) → (s ≡ Fresh → ⊥) → BegunBy s begun
        by Fresh not_so = absurd (not_so refl)
        by s not_so = tt

    -- the change stands as it waited
    abbrev Open : Stands
    Open = Once doc timeout stood good (WaitsSince doc timeout stood begun)

    open_station : (b : Standing) → Open b → P b
    open_station b is = inr (inl is.1)

    unknown : (event : Event) → closed_to event ≡ Doubt → Comes doc timeout begun first new now event → Near P (standing new.state) → Within (left_by new) P → After event
    unknown event is comes reads left = record {
      holds = subst (λ (s : NodeState). NodeHolds doc timeout begun good s first new) (sym is) (held Doubt reads left (λ e. cc));
      comes = comes;
    }

    left_open : Within (left_by new) (Before (entry_of old)) → Within (left_by new) P
    left_open within = widen (left_by new) Open P open_station (through Open old new before.left within)

    left_read : Within (left_by new) (BeforeAsRead (entry_of old)) → Within (left_by new) P
    left_read within = widen (left_by new) Open P open_station (within_bind (left_by new) (BeforeAsRead (entry_of old)) Open (λ a is. before.left a is.0) within)

    reads_same : (b : Standing) → b ≡ was → P b
    reads_same b is = inr (inl (as_waits b is))

    rose_since : Rose old.faults new.faults → Rose first.faults new.faults
    rose_since rose = omega (arith, before.later, rose)

    -- the answer of the machine, by the time
    at_due : (d : Bool) → due ≡ d → (commit now was).answer ≡ (by_time d).answer
    at_due d is = ap (λ (o : Closed). o.answer) (machine d is)

    abbrev Call : Result ⊤ CommitFault → Type 0
    Call answer = Commits tells honest old new now answer

    closed : IsOutcome (commit now was) new (Ok tt) → Within (left_by new) (Only (commit now was).after) → After (ev.Closed i)
    closed outcome left = elim (cases_Bool due) [
      | inl sure ↦ let e : late ≡ Ok tt = sym (at_due true sure) ∙ outcome.answer in absurd (cc)
      | inr not_so ↦
          let is : (commit now was).after ≡ restored_to w.waits.1 = ap (λ (o : Closed). o.after) (machine false not_so) in
          record {
            holds = held Committed (merged (standing new.state) (outcome.after ∙ is))
                (widen (left_by new) (Only (commit now was).after) (Once doc timeout stood good (Merged doc timeout stood)) (λ b same. merged b (same ∙ is)) left) (λ e. cc);
            comes = in_time_at doc timeout begun w.at now w.is not_so;
          }
    ]

    -- none but these two
    never : (answer : Result ⊤ CommitFault) → (commit now was).answer ≡ answer → (late ≡ answer → ⊥) → (Ok tt ≡ answer → ⊥) → ⊥
    never answer is not_late not_done = elim (cases_Bool due) [
      | inl sure ↦ not_late (sym (at_due true sure) ∙ is)
      | inr not_so ↦ not_done (sym (at_due false not_so) ∙ is)
    ]

    of_fault : (fault : CommitFault) → Call (Err fault) → After (closing i (Err fault))
    of_fault co.NoCheckpoint call = absurd (never (Err co.NoCheckpoint) (call.answers told).answer (λ e. cc) (λ e. cc))
    of_fault (co.Unfinished made deadline) call = absurd (never (Err (co.Unfinished made deadline)) (call.answers told).answer (λ e. cc) (λ e. cc))
    of_fault (co.Expired made deadline) call =
        let outcome = call.answers told in
        elim (cases_Bool due) [
          | inr not_so ↦ let e : Ok tt ≡ Err (co.Expired made deadline) = sym (at_due false not_so) ∙ outcome.answer in absurd (cc)
          | inl sure ↦ unknown (ev.Late i) refl (due_at doc timeout begun w.at now w.is sure) (near_self P (standing new.state) (after_is (standing new.state) outcome.after)) (left_read (call.exit told before.sound))
        ]
    of_fault co.HostFault call =
        unknown (ev.Unclear i) refl (inr (rose_since call.answers.0)) (near_self P (standing new.state) (reads_same (standing new.state) (ap standing (call.answers.1 told)))) (left_open (call.exit told before.sound))
    of_fault co.InDoubt call =
        unknown (ev.Unclear i) refl (inr (rose_since call.answers.0))
        (near_wider (Either (BeforeAsRead (at was)) (Only (commit now was).after)) P (λ b is. elim is [ inl same ↦ reads_same b same.0 | inr after ↦ after_is b after ]) (standing new.state)
        (call.reads told before.sound (standing new.state) refl))
        (within_bind (left_by new) (Either (BeforeAsRead (entry_of old)) (Only (commit now was).after)) P
        (λ b is. elim is [
          | inl same ↦ near_wider Open P open_station b (before.left b same.0)
          | inr after ↦ near_self P b (after_is b after)
        ]) (call.exit told before.sound))

    -- what a commit leaves
    pub of_answer : (answer : Result ⊤ CommitFault) → Call answer → After (closing i answer)
    of_answer (Ok done) call = closed (call.answers told) (call.exit told before.sound)
    of_answer (Err fault) call = of_fault fault call
