-- What a rollback makes of a node, by its answer.
use Rattle.std.proofs.Common.{◌≡◌, inl, inr, ◌∙◌, ℕ, ◌≤◌, Bool, refl, ap, sym, subst, Option, Some, Result, Ok, Err, arith}
use Rattle.std.specs.Prelude.{⊤}
use Rattle.document_model.specs.declared.Doc.{Doc}
use Rattle.host_core.specs.Faults.{Rose}
use Rattle.host_core.specs.HostView.{HostView, IsLawfulHost}
use Rattle.checkpoint_cell.specs.Cell.{Checkpoint}
use Rattle.checkpoint_cell.specs.Settled.{Standing, standing, restored_to}
use Rattle.engine_model.specs.Machine.{Outcome, waiting, rollback}
use Rattle.engine_model.specs.Sound.{IsWhole}
use Rattle.engine_model.specs.Stations.{Stands, Near, Within, Only, Either, Before, Kept, entry_of, left_by, at}
use Rattle.engine_model.specs.declared.answers.Left.TheVariants.{NotBegun, RolledBack, Pending}
use Rattle.engine_model.specs.declared.answers.BackFault.{BackFault}
use Rattle.engine_model.specs.declared.answers.BackFault.TheVariants as ba
use Rattle.engine_model.proofs.lemmas.Backs.{back_with, rollback_set}
use Rattle.engine_model.proofs.lemmas.Leading.{near_wider}
use Rattle.rollout_model.specs.declared.node.NodeState.{NodeState}
use Rattle.rollout_model.specs.declared.node.NodeState.TheVariants.{Fresh, Restored, Doubt}
use Rattle.rollout_model.specs.declared.node.Event.{Event}
use Rattle.rollout_model.specs.declared.node.Event.TheVariants as ev
use Rattle.rollout_model.proofs.lemmas.Rolling.{back_to}
use Rattle.rollout_core.specs.Answers.{returning}
use Rattle.rollout_core.specs.Calls.{TakesBack}
use Rattle.rollout_core.specs.Causes.{Comes}
use Rattle.rollout_core.specs.Did.{change}
use Rattle.rollout_core.specs.Places.{WaitsSince, Station, AtRest, ReadsAs, BegunBy, NodeHolds}
use Rattle.rollout_core.proofs.Looking.{Waited, waited}
use Rattle.rollout_core.proofs.Near.{near_self, widen, within_bind, through, place_station, goes_on}

abbrev Back : Type 0
Back = Outcome ⊤ BackFault

module _ (tells honest : Type 0) (trust : honest) (told : tells) (doc : Doc) (timeout now i : ℕ) (begun : Option ℕ) (good : Bool) (state : NodeState) (first old new : HostView)
    (before : NodeHolds doc timeout begun good state first old) (lawful : IsLawfulHost tells old) where
  abbrev stood : Standing
  stood = standing first.state

  abbrev was : Standing
  was = standing old.state

  abbrev P : Stands
  P = Station doc timeout stood begun good

  -- where the change waits
  module _ (waits : WaitsSince doc timeout stood begun was) where
    w : Waited doc timeout stood was begun
    w = waited doc timeout stood was begun waits

    abbrev saved : Checkpoint
    saved = waiting (change doc timeout w.at) w.waits.0

    cell_is : (standing old.state).cell ≡ Some saved
    cell_is = ap (λ (s : Standing). s.cell) w.waits.3

    whole : IsWhole old.state saved
    whole = (before.sound.fit old.state (lawful.reads told)).whole saved cell_is

    saved_is : whole.saved ≡ w.waits.0
    saved_is = let e : Some w.waits.0 ≡ Some whole.saved = whole.is_saved in cc

    -- the machine takes it back to what stood
    machine : rollback was ≡ back_with tt whole.saved
    machine = rollback_set old.state saved cell_is whole

    after_stood : (b : Standing) → b ≡ (rollback was).after → b ≡ stood
    after_stood b is = is ∙ ap (λ (o : Back). o.after) machine ∙ ap restored_to saved_is ∙ sym w.waits.2.stands

    done : (rollback was).answer ≡ Ok tt
    done = ap (λ (o : Back). o.answer) machine

    module _ (kept : Kept (Only (rollback was).after) old new) (later : old.faults ≤ new.faults) where
      pub record After (event : Event) : Type 0 where
        pub holds : NodeHolds doc timeout begun good (back_to event) first new
        pub comes : Comes doc timeout begun first new now event

      held : (to : NodeState) → ReadsAs doc timeout stood begun good to (standing new.state) → Within (left_by new) (AtRest doc timeout stood begun good to) → (to ≡ Fresh → ⊥) → NodeHolds doc timeout begun good to first new
      held to reads left some =
          goes_on doc timeout first old new begun good state before begun good (λ a is. is) (Only (rollback was).after) kept (λ b is. near_self P b (inl (after_stood b is))) to (by to some) reads left later
        where
          by : (s : NodeState) → (s ≡ Fresh → ⊥) → BegunBy s begun
          by Fresh not_so = absurd (not_so refl)
          by s not_so = tt

      unknown : (event : Event) → back_to event ≡ Doubt → Comes doc timeout begun first new now event → Near P (standing new.state) → Within (left_by new) P → After event
      unknown event is comes reads left = record {
        holds = subst (λ (s : NodeState). NodeHolds doc timeout begun good s first new) (sym is) (held Doubt reads left (λ e. cc));
        comes = comes;
      }

      before_station : Within (left_by old) P
      before_station = widen (left_by old) (AtRest doc timeout stood begun good state) P (place_station doc timeout stood begun good state) before.left

      was_station : (b : Standing) → b ≡ was → P b
      was_station b is = inr (inl (subst (λ (s : Standing). WaitsSince doc timeout stood begun s) (sym is) waits))

      rose_since : Rose old.faults new.faults → Rose first.faults new.faults
      rose_since rose = omega (arith, before.later, rose)

      -- as before, or taken back
      reads_either : Within (Only (standing new.state)) (Either (Before (at was)) (Only (rollback was).after)) → Near P (standing new.state)
      reads_either within = near_wider (Either (Before (at was)) (Only (rollback was).after)) P (λ b is. elim is [ inl same ↦ was_station b same | inr back ↦ inl (after_stood b back) ]) (standing new.state) (within (standing new.state) refl)

      left_either : Within (left_by new) (Either (Before (entry_of old)) (Only (rollback was).after)) → Within (left_by new) P
      left_either within = within_bind (left_by new) (Either (Before (entry_of old)) (Only (rollback was).after)) P
          (λ b is. elim is [ inl same ↦ before_station b same | inr back ↦ near_self P b (inl (after_stood b back)) ]) within

      abbrev Call : Result ⊤ BackFault → Type 0
      Call answer = TakesBack tells honest old new answer

      -- a fault that the machine doesn't answer
      never : (fault : BackFault) → (rollback was).answer ≡ Err fault → ⊥
      never fault is = let e : Ok tt ≡ Err fault = sym done ∙ is in cc

      of_fault : (fault : BackFault) → Call (Err fault) → After (returning i (Err fault))
      of_fault ba.NoCheckpoint call = absurd (never ba.NoCheckpoint (call.answers trust before.sound).answer)
      of_fault (ba.HostFault NotBegun) call =
          unknown (ev.Unclear i) refl (inr (rose_since (call.answers trust before.sound).0))
          (near_self P (standing new.state) (was_station (standing new.state) (ap standing (call.says.1 told))))
          (through P old new before_station (call.exit trust before.sound))
      of_fault (ba.HostFault RolledBack) call = absurd (call.exit trust before.sound)
      of_fault (ba.HostFault Pending) call =
          unknown (ev.Unclear i) refl (inr (rose_since (call.answers trust before.sound).0)) (reads_either (call.reads trust before.sound)) (left_either (call.exit trust before.sound))
      of_fault (ba.KernelRefused k n side) call = absurd (call.answers trust before.sound)
      of_fault (ba.Damaged area) call = absurd (call.exit trust before.sound)
      of_fault (ba.HardwareDiffers names) call = absurd (call.exit trust before.sound)
      of_fault ba.OutOfMemory call = unknown (ev.Starved i) refl tt (reads_either (call.reads trust before.sound)) (left_either (call.exit trust before.sound))

      -- what a rollback leaves
      pub of_answer : (answer : Result ⊤ BackFault) → Call answer → After (returning i answer)
      of_answer (Ok done) call =
          let outcome = call.answers trust before.sound in
          record {
            holds = held Restored (after_stood (standing new.state) outcome.after)
                (widen (left_by new) (Only (rollback was).after) (Only stood) after_stood (call.exit trust before.sound)) (λ e. cc);
            comes = tt;
          }
      of_answer (Err fault) call = of_fault fault call
