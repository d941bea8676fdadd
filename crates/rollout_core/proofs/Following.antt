-- What follows of a step from what was done.
use Rattle.std.proofs.Common.{◌≡◌, ◌≢◌, ◌∙◌, ◌<◌, List, [], ◌∷◌, length, refl, ap, sym, subst, Option, Some, None}
use Rattle.std.proofs.lemmas.List.{length-set}
use Rattle.host_core.specs.declared.Host.{Ghosts as HostGhosts}
use Rattle.engine_model.specs.Machine.{Asked}
use Rattle.rollout_model.specs.Rollout.{Rollout}
use Rattle.rollout_model.specs.Next.{next}
use Rattle.rollout_model.specs.Rolls.{Carries, work}
use Rattle.rollout_model.specs.Steps.{run, after, by_effect, effect_of, node_of, accepted, AllAccepted}
use Rattle.rollout_model.specs.Going.{IsAccepted, Falls}
use Rattle.rollout_model.specs.declared.table.Effect.{Effect}
use Rattle.rollout_model.specs.declared.node.Event.{Event}
use Rattle.rollout_model.specs.declared.node.Action.{Action}
use Rattle.rollout_model.specs.declared.node.Action.TheVariants.{Start, Probe, Commit, Rollback, Finish}
use Rattle.rollout_core.specs.Did.{Did}
use Rattle.rollout_core.proofs.Carrying.{carried}

-- as many hosts as before
pub same_many : {H : Type 0} (G : HostGhosts H) (a : Asked) (action : Action) (old new : List H) (events : List Event) → Did G a action old new events → length new ≡ length old
same_many G a (Start i) old new events did = ap length did.1.is_after ∙ length-set old i did.1.after
same_many G a (Probe i) old new events did = ap length did.1.is_after ∙ length-set old i did.1.after
same_many G a (Commit i) old new events did = ap length did.1.is_after ∙ length-set old i did.1.after
same_many G a (Rollback i) old new events did = ap length did.1.is_after ∙ length-set old i did.1.after
same_many G a Finish old new events did = ap length did.0

-- as many nodes as before
after_many : (r : Rollout) (event : Event) (e : Option Effect) → length (by_effect r event e).nodes ≡ length r.nodes
after_many r event None = refl
after_many r event (Some e) = length-set r.nodes (node_of event) e.node

pub run_many : (r : Rollout) (events : List Event) → length (run r events).nodes ≡ length r.nodes
run_many r [] = refl
run_many r (event ∷ events) = run_many (after r event) events ∙ after_many r event (effect_of r event)

module _ {H : Type 0} (G : HostGhosts H) (a : Asked) (r : Rollout) (old new : List H) (events : List Event) where
  abbrev carries : (action : Action) → next r ≡ action → Did G a action old new events → Carries (next r) events
  carries action is did = subst (λ (x : Action). Carries x events) (sym is) (carried G a action old new events did)

  -- each event is accepted
  pub accepted_by : IsAccepted → (action : Action) → next r ≡ action → Did G a action old new events → AllAccepted r events
  accepted_by laws Finish is did = subst (λ (e : List Event). accepted r e ≡ e) (sym did.1) refl
  accepted_by laws (Start i) is did = laws r events (λ e. let c : Start i ≡ Finish = sym is ∙ e in cc) (carries (Start i) is did)
  accepted_by laws (Probe i) is did = laws r events (λ e. let c : Probe i ≡ Finish = sym is ∙ e in cc) (carries (Probe i) is did)
  accepted_by laws (Commit i) is did = laws r events (λ e. let c : Commit i ≡ Finish = sym is ∙ e in cc) (carries (Commit i) is did)
  accepted_by laws (Rollback i) is did = laws r events (λ e. let c : Rollback i ≡ Finish = sym is ∙ e in cc) (carries (Rollback i) is did)

  -- and less is left to be done
  pub falls_by : Falls → next r ≢ Finish → Did G a (next r) old new events → work (run r events) < work r
  falls_by laws some did = laws r events some (carries (next r) refl did)
