-- What holds of a rollout goes on to hold with each step.
use Rattle.std.proofs.Common.{◌≡◌, ◌≢◌, ◌⊎◌, inl, inr, ◌∙◌, ℕ, ◌+◌, ◌≤◌, take, Bool, true, false, ◌||◌, List, [], ◌∷◌, ◌++◌, length, refl, ap, sym, subst, Option, Some}
use Rattle.std.specs.Prelude.{slice_get, slice_set}
use Rattle.std.specs.List.{list_any}
use Rattle.std.proofs.lemmas.Bool.{cases_eq}
use Rattle.std.proofs.lemmas.List.{length-set}
use Rattle.document_model.specs.declared.Doc.{Doc}
use Rattle.host_core.specs.declared.Host.{Ghosts as HostGhosts}
use Rattle.rollout_model.specs.Rollout.{Rollout, begun}
use Rattle.rollout_model.specs.Steps.{node_of, run}
use Rattle.rollout_model.specs.Next.{next}
use Rattle.rollout_model.specs.Rolls.{Carries, Rolls, OneOf, answers}
use Rattle.rollout_model.specs.Safe.{IsAt}
use Rattle.rollout_model.specs.declared.node.NodeState.{NodeState}
use Rattle.rollout_model.specs.declared.node.Event.{Event}
use Rattle.rollout_model.specs.declared.node.Event.TheVariants as ev
use Rattle.rollout_model.specs.declared.node.Action.{Action}
use Rattle.rollout_model.specs.declared.node.Action.TheVariants.{Finish}
use Rattle.rollout_model.proofs.lemmas.Items.{get_set_same, get_set_other}
use Rattle.rollout_model.proofs.lemmas.Nexts.{NextSays, next_says}
use Rattle.rollout_model.proofs.lemmas.Rolling.{Went, target, events_by, to_state, answered, now_at, others_at}
use Rattle.rollout_core.specs.Causes.{Comes}
use Rattle.rollout_core.specs.Holding.{Holds}
use Rattle.rollout_core.specs.Places.{NodeHolds}
use Rattle.rollout_core.specs.Trace.{Stepped, told_each, is_start_of, is_good_of, started, was_good}
use Rattle.rollout_core.proofs.Tracing.{get_push, up_to_old, up_to_new, started_same, good_push, comes_on}

-- ---- a rollout with one more step

pub rolls_push : (steps : List (List Event)) (r last : Rollout) (events : List Event) → Rolls r steps last → next last ≢ Finish → Carries (next last) events → Rolls r (steps ++ events ∷ []) (run last events)
rolls_push [] r last events rolls some by =
    (subst (λ (q : Rollout). next q ≢ Finish) rolls some, subst (λ (q : Rollout). Carries (next q) events) rolls by, ap (λ (q : Rollout). run q events) rolls)
rolls_push (first ∷ steps) r last events rolls some by = (rolls.0, rolls.1, rolls_push steps (run r first) last events rolls.2 some by)

pub each_push : (steps : List Stepped) (step : Stepped) → told_each (steps ++ step ∷ []) ≡ told_each steps ++ step.events ∷ []
each_push [] step = refl
each_push (s ∷ steps) step = ap (λ (l : List (List Event)). s.events ∷ l) (each_push steps step)

module _ {H : Type 0} (G : HostGhosts H) (doc : Doc) (timeout limit : ℕ) (first : List H) (steps : List Stepped) (core : Rollout) (hosts : List H) (holds : Holds G doc timeout limit first steps core hosts) (now : ℕ) where
  abbrev stepped : List Event → Stepped
  stepped events = record { at = now; events = events }

  abbrev with : List Event → List Stepped
  with events = steps ++ stepped events ∷ []

  -- what a step makes of its node
  pub record Turn (i : ℕ) (to : NodeState) (event : Event) (events : List Event) (before after : H) : Type 0 where
    pub node_is : (f : H) → slice_get first i ≡ Some f → NodeHolds doc timeout (started i (with events)) (was_good i (with events)) to (G.told f) (G.told after)
    pub comes : (f : H) → slice_get first i ≡ Some f → Comes doc timeout (started i (with events)) (G.told f) (G.told after) now event
    pub later : (G.told before).faults ≤ (G.told after).faults

  module _ (a : Action) (some : next core ≢ Finish) (is_next : next core ≡ a) (event : Event) (one : OneOf (answers a) event) (node : node_of event ≡ target a) (carries : Carries a (events_by a event))
      (none_start : (j : ℕ) → (target a ≡ j → ⊥) → list_any (is_start_of j) (events_by a event) ≡ false) (none_good : (j : ℕ) → (target a ≡ j → ⊥) → list_any (is_good_of j) (events_by a event) ≡ false)
      (old_only : (e : Event) → OneOf (events_by a event) e → (e ≡ event) ⊎ ((n : ℕ) × (e ≡ ev.Start n)))
      (before after : H) (is_before : slice_get hosts (target a) ≡ Some before) (turn : Turn (target a) (to_state a event) event (events_by a event) before after) where
    abbrev events : List Event
    events = events_by a event

    abbrev i : ℕ
    i = target a

    abbrev new : List H
    new = slice_set hosts i after

    w : Went core events i (to_state a event)
    w = answered core a (subst (λ (b : Action). NextSays core b) is_next (next_says core)) event one

    there : IsAt (run core events) i (to_state a event)
    there = now_at core events i w.from (to_state a event) w.h w.result

    node_holds : (j : ℕ) (f h : H) (state : NodeState) → slice_get first j ≡ Some f → slice_get new j ≡ Some h → IsAt (run core events) j state
        → NodeHolds doc timeout (started j (with events)) (was_good j (with events)) state (G.told f) (G.told h)
    node_holds j f h state at_first at_host at = elim (cases_eq i j) [
      | inl same ↦
          let host : Some after ≡ Some h = sym (get_set_same hosts i before after is_before) ∙ ap (λ (k : ℕ). slice_get new k) same ∙ at_host in
          let is_host : after ≡ h = cc in
          let st : Some (to_state a event) ≡ Some state = sym there ∙ ap (λ (k : ℕ). slice_get (run core events).nodes k) same ∙ at in
          let is_state : to_state a event ≡ state = cc in
          let now_holds = turn.node_is f (ap (λ (k : ℕ). slice_get first k) same ∙ at_first) in
          subst (λ (k : ℕ). NodeHolds doc timeout (started k (with events)) (was_good k (with events)) state (G.told f) (G.told h)) same
          (subst (λ (x : H). NodeHolds doc timeout (started i (with events)) (was_good i (with events)) state (G.told f) (G.told x)) is_host
          (subst (λ (s : NodeState). NodeHolds doc timeout (started i (with events)) (was_good i (with events)) s (G.told f) (G.told after)) is_state now_holds))
      | inr apart ↦
          let at_old : slice_get hosts j ≡ Some h = sym (get_set_other hosts i j after apart) ∙ at_host in
          let was : IsAt core j state = sym (others_at core events i w.from (to_state a event) w.h w.result j apart) ∙ at in
          let same_start : started j (with events) ≡ started j steps = started_same j steps (stepped events) (none_start j apart) in
          let same_good : was_good j (with events) ≡ was_good j steps =
          good_push j steps (stepped events) ∙ ap (λ (b : Bool). was_good j steps || b) (none_good j apart) ∙ or_false (was_good j steps) in
          subst (λ (o : Option ℕ). NodeHolds doc timeout o (was_good j (with events)) state (G.told f) (G.told h)) (sym same_start)
          (subst (λ (b : Bool). NodeHolds doc timeout (started j steps) b state (G.told f) (G.told h)) (sym same_good) (holds.nodes j f h state at_first at_old was))
    ]
      where
        or_false : (b : Bool) → (b || false) ≡ b
        or_false true = refl
        or_false false = refl

    -- why the events so far came
    old_comes : (k : ℕ) (step : Stepped) (e : Event) (f h : H) → slice_get steps k ≡ Some step → OneOf step.events e → slice_get first (node_of e) ≡ Some f → slice_get new (node_of e) ≡ Some h
        → Comes doc timeout (started (node_of e) (take (k + 1) steps)) (G.told f) (G.told h) step.at e
    old_comes k step e f h at_step told_it at_first at_host = elim (cases_eq i (node_of e)) [
      | inl same ↦
          let host : Some after ≡ Some h = sym (get_set_same hosts i before after is_before) ∙ ap (λ (n : ℕ). slice_get new n) same ∙ at_host in
          let is_host : after ≡ h = cc in
          let cause = holds.causes k step e f before at_step told_it at_first (ap (λ (n : ℕ). slice_get hosts n) (sym same) ∙ is_before) in
          comes_on doc timeout (started (node_of e) (take (k + 1) steps)) (G.told f) (G.told before) (G.told h) step.at e (subst (λ (x : H). (G.told before).faults ≤ (G.told x).faults) is_host turn.later) cause
      | inr apart ↦ holds.causes k step e f h at_step told_it at_first (sym (get_set_other hosts i (node_of e) after apart) ∙ at_host)
    ]

    -- why the new ones came
    new_comes : (e : Event) (f h : H) → OneOf events e → slice_get first (node_of e) ≡ Some f → slice_get new (node_of e) ≡ Some h → Comes doc timeout (started (node_of e) (with events)) (G.told f) (G.told h) now e
    new_comes e f h told_it at_first at_host = elim (old_only e told_it) [
      | inr (n, starts) ↦ subst (λ (x : Event). Comes doc timeout (started (node_of x) (with events)) (G.told f) (G.told h) now x) (sym starts) tt
      | inl is ↦
          let same : node_of e ≡ i = ap node_of is ∙ node in
          let host : Some after ≡ Some h = sym (get_set_same hosts i before after is_before) ∙ ap (λ (n : ℕ). slice_get new n) (sym same) ∙ at_host in
          let is_host : after ≡ h = cc in
          let cause = turn.comes f (ap (λ (n : ℕ). slice_get first n) (sym same) ∙ at_first) in
          subst (λ (x : Event). Comes doc timeout (started (node_of e) (with events)) (G.told f) (G.told h) now x) (sym is)
          (subst (λ (n : ℕ). Comes doc timeout (started n (with events)) (G.told f) (G.told h) now event) (sym same)
          (subst (λ (x : H). Comes doc timeout (started i (with events)) (G.told f) (G.told x) now event) is_host cause))
    ]

    pub goes_on : Holds G doc timeout limit first (with events) (run core events) new
    goes_on = record {
      many = length-set hosts i after ∙ holds.many;
      rolls = subst (λ (l : List (List Event)). Rolls (begun (length first) limit) l (run core events)) (sym (each_push steps (stepped events)))
          (rolls_push (told_each steps) (begun (length first) limit) core events holds.rolls some (subst (λ (b : Action). Carries b events) (sym is_next) carries));
      nodes = node_holds;
      causes = λ k step e f h at_step told_it at_first at_host. elim (get_push steps (stepped events) step k at_step) [
        | inl was ↦ subst (λ (l : List Stepped). Comes doc timeout (started (node_of e) l) (G.told f) (G.told h) step.at e) (sym (up_to_old steps (stepped events) step k was)) (old_comes k step e f h was told_it at_first at_host)
        | inr is ↦
            let told_now : OneOf events e = subst (λ (s : Stepped). OneOf s.events e) is.0 told_it in
            subst (λ (l : List Stepped). Comes doc timeout (started (node_of e) l) (G.told f) (G.told h) step.at e) (sym (up_to_new steps (stepped events) k is.1))
            (subst (λ (s : Stepped). Comes doc timeout (started (node_of e) (with events)) (G.told f) (G.told h) s.at e) (sym is.0) (new_comes e f h told_now at_first at_host))
      ];
    }
