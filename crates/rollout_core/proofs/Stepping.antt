-- A step of a rollout keeps what holds of it.
use Rattle.std.proofs.Common.{◌≡◌, ◌≢◌, ◌⊎◌, inl, inr, ◌∙◌, ℕ, Bool, true, false, ◌||◌, List, [], ◌∷◌, ◌++◌, refl, ap, sym, subst, Option, Some, None, Result}
use Rattle.std.specs.Prelude.{⊤, slice_get, slice_set}
use Rattle.std.proofs.lemmas.Bool.{eq-eqb, or_left, or_right, or_from}
use Rattle.document_model.specs.declared.Doc.{Doc}
use Rattle.host_core.specs.HostView.{IsLawfulHost}
use Rattle.host_core.specs.declared.Host.{Ghosts as HostGhosts}
use Rattle.engine_model.specs.declared.answers.Applied.{Applied}
use Rattle.engine_model.specs.declared.answers.ApplyFault.{ApplyFault}
use Rattle.engine_model.specs.declared.answers.CommitFault.{CommitFault}
use Rattle.engine_model.specs.declared.answers.BackFault.{BackFault}
use Rattle.engine_model.specs.declared.answers.Checked.{Checked}
use Rattle.engine_model.specs.declared.answers.CheckFault.{CheckFault}
use Rattle.checkpoint_cell.specs.Settled.{standing}
use Rattle.rollout_model.specs.Rollout.{Rollout}
use Rattle.rollout_model.specs.Steps.{run}
use Rattle.rollout_model.specs.Next.{next}
use Rattle.rollout_model.specs.Rolls.{OneOf}
use Rattle.rollout_model.specs.declared.node.NodeState.{NodeState}
use Rattle.rollout_model.specs.declared.node.NodeState.TheVariants.{Fresh, Opened, Probed}
use Rattle.rollout_model.specs.declared.node.Event.{Event}
use Rattle.rollout_model.specs.declared.node.Event.TheVariants as ev
use Rattle.rollout_model.specs.declared.node.Action.{Action}
use Rattle.rollout_model.specs.declared.node.Action.TheVariants.{Start, Probe, Commit, Rollback, Finish}
use Rattle.rollout_model.proofs.lemmas.Nexts.{MayStart, MayProbe, MayCommit, MayTakeBack, NextSays, next_says}
use Rattle.rollout_model.proofs.lemmas.Rolling.{begun_to, looked_to, closed_to, back_to}
use Rattle.rollout_core.specs.Answers.{opening, probing, closing, returning}
use Rattle.rollout_core.specs.Calls.{Applies, Looks, Commits, TakesBack}
use Rattle.rollout_core.specs.Causes.{Comes}
use Rattle.rollout_core.specs.Did.{Did, change}
use Rattle.rollout_core.specs.Holding.{Holds}
use Rattle.rollout_core.specs.Places.{WaitsSince, NodeHolds}
use Rattle.rollout_core.specs.Trace.{Stepped, is_start_of, is_good_of, started, was_good}
use Rattle.rollout_core.proofs.Tracing.{started_same, started_now, good_push}
use Rattle.rollout_core.proofs.Carrying.{opening_one, probing_one, closing_one, returning_one, opening_of, probing_of, closing_of, returning_of, other_start, other_good}
use Rattle.rollout_core.proofs.Holding.{goes_on}
use Rattle.rollout_core.proofs.Opening as opens
use Rattle.rollout_core.proofs.Looking as looks
use Rattle.rollout_core.proofs.Closing as closes
use Rattle.rollout_core.proofs.Returning as returns

or_false : (b : Bool) → (b || false) ≡ b
or_false true = refl
or_false false = refl

-- one event, which isn't another
one_only : (event e : Event) → OneOf (event ∷ []) e → (e ≡ event) ⊎ ((n : ℕ) × (e ≡ ev.Start n))
one_only event e one = elim one [ inl is ↦ inl is | inr none ↦ absurd none ]

two_only : (i : ℕ) (event e : Event) → OneOf (ev.Start i ∷ event ∷ []) e → (e ≡ event) ⊎ ((n : ℕ) × (e ≡ ev.Start n))
two_only i event e one = elim one [ inl is ↦ inr (i, is) | inr more ↦ one_only event e more ]

module _ {H : Type 0} (G : HostGhosts H) (lawful : (h : H) → IsLawfulHost G.tells (G.told h)) (trust : G.honest) (told : G.tells) (doc : Doc) (timeout limit : ℕ) (first : List H) (steps : List Stepped) (core : Rollout)
    (hosts : List H) (holds : Holds G doc timeout limit first steps core hosts) (now : ℕ) where
  abbrev stepped : List Event → Stepped
  stepped events = record { at = now; events = events }

  abbrev after_events : List Event → List Stepped
  after_events events = steps ++ stepped events ∷ []

  abbrev Goes : List Event → List H → Type 0
  Goes events new = Holds G doc timeout limit first (after_events events) (run core events) new

  -- ---- what a step makes of the trace of its node

  -- one event that is no start
  module _ (i : ℕ) (event : Event) (starts : is_start_of i event ≡ false) where
    start_same : started i (after_events (event ∷ [])) ≡ started i steps
    start_same = started_same i steps (stepped (event ∷ [])) (or_from (is_start_of i event) false starts refl)

    good_same : is_good_of i event ≡ false → was_good i (after_events (event ∷ [])) ≡ was_good i steps
    good_same not_so = good_push i steps (stepped (event ∷ [])) ∙ ap (λ (b : Bool). was_good i steps || b) (or_from (is_good_of i event) false not_so refl) ∙ or_false (was_good i steps)

  -- ---- a start

  module _ (i : ℕ) (may : MayStart core i) (answer : Result Applied ApplyFault) (before after : H) (is_before : slice_get hosts i ≡ Some before)
      (call : Applies G.tells G.honest (G.told before) (G.told after) (change doc timeout now) answer) where
    abbrev opened : Event
    opened = opening i answer

    abbrev both : List Event
    both = ev.Start i ∷ opened ∷ []

    module _ (f : H) (at : slice_get first i ≡ Some f) where
      fresh : NodeHolds doc timeout (started i steps) (was_good i steps) Fresh (G.told f) (G.told before)
      fresh = holds.nodes i f before Fresh at is_before may.fresh

      unbegun : NodeHolds doc timeout None (was_good i steps) Fresh (G.told f) (G.told before)
      unbegun = subst (λ (o : Option ℕ). NodeHolds doc timeout o (was_good i steps) Fresh (G.told f) (G.told before)) fresh.begun_by fresh

      makes : opens.After G.tells G.honest trust told doc timeout now i (was_good i steps) (G.told f) (G.told before) (G.told after) unbegun (call.kept trust fresh.sound) call.later opened
      makes = opens.of_answer G.tells G.honest trust told doc timeout now i (was_good i steps) (G.told f) (G.told before) (G.told after) unbegun (call.kept trust fresh.sound) call.later answer call

      now_started : started i (after_events both) ≡ Some now
      now_started = started_now i steps (stepped both) fresh.begun_by (or_left (is_start_of i (ev.Start i)) (is_start_of i opened || false) (eq-eqb i i refl))

      same_good : was_good i (after_events both) ≡ was_good i steps
      same_good =
          good_push i steps (stepped both)
          ∙ ap (λ (b : Bool). was_good i steps || (b || false)) (opening_of i opened (opening_one i answer)).1
          ∙ or_false (was_good i steps)

      start_holds : NodeHolds doc timeout (started i (after_events both)) (was_good i (after_events both)) (begun_to opened) (G.told f) (G.told after)
      start_holds =
          subst (λ (o : Option ℕ). NodeHolds doc timeout o (was_good i (after_events both)) (begun_to opened) (G.told f) (G.told after)) (sym now_started)
          (subst (λ (b : Bool). NodeHolds doc timeout (Some now) b (begun_to opened) (G.told f) (G.told after)) (sym same_good) makes.holds)

      start_comes : Comes doc timeout (started i (after_events both)) (G.told f) (G.told after) now opened
      start_comes = subst (λ (o : Option ℕ). Comes doc timeout o (G.told f) (G.told after) now opened) (sym now_started) makes.comes

    start_goes : next core ≡ Start i → Goes both (slice_set hosts i after)
    start_goes is =
        let one = opening_one i answer in
        let of = opening_of i opened one in
        goes_on G doc timeout limit first steps core hosts holds now (Start i) (λ e. let c : Start i ≡ Finish = sym is ∙ e in cc) is opened one of.0.node (opened, one, refl)
        (λ j apart. or_from (is_start_of j (ev.Start i)) (is_start_of j opened || false) (other_start i j apart (ev.Start i) refl) (or_from (is_start_of j opened) false (other_start i j apart opened of.0.node) refl))
        (λ j apart. or_from (is_good_of j opened) false (other_good i j apart opened of.0.node) refl)
        (two_only i opened) before after is_before
        (record { node_is = start_holds; comes = start_comes; later = call.later })

  -- ---- a look

  module _ (i : ℕ) (may : MayProbe core i) (answer : Result Checked CheckFault) (before after : H) (is_before : slice_get hosts i ≡ Some before)
      (call : Looks G.tells G.honest (G.told before) (G.told after) answer) where
    abbrev found : Event
    found = probing now i answer

    of_found : is_start_of i found ≡ false
    of_found = (probing_of i found (probing_one i now answer)).starts

    good_now : was_good i (after_events (found ∷ [])) ≡ (was_good i steps || (is_good_of i found || false))
    good_now = good_push i steps (stepped (found ∷ []))

    module _ (f : H) (at : slice_get first i ≡ Some f) where
      open_node : NodeHolds doc timeout (started i steps) (was_good i steps) Opened (G.told f) (G.told before)
      open_node = holds.nodes i f before Opened at is_before may.opened

      seen : looks.After G.tells G.honest trust told doc timeout now i (started i steps) (was_good i steps) (G.told f) (G.told before) (G.told after) (lawful before) open_node (was_good i (after_events (found ∷ []))) found
      seen = looks.of_answer G.tells G.honest trust told doc timeout now i (started i steps) (was_good i steps) (G.told f) (G.told before) (G.told after) (lawful before) open_node answer call (was_good i (after_events (found ∷ [])))
          (λ sure. good_now ∙ or_left (was_good i steps) (is_good_of i found || false) sure)
          (λ sure. good_now ∙ or_right (was_good i steps) (is_good_of i found || false) (or_left (is_good_of i found) false sure))

      look_holds : NodeHolds doc timeout (started i (after_events (found ∷ []))) (was_good i (after_events (found ∷ []))) (looked_to found) (G.told f) (G.told after)
      look_holds = subst (λ (o : Option ℕ). NodeHolds doc timeout o (was_good i (after_events (found ∷ []))) (looked_to found) (G.told f) (G.told after)) (sym (start_same i found of_found)) seen.holds

      look_comes : Comes doc timeout (started i (after_events (found ∷ []))) (G.told f) (G.told after) now found
      look_comes = subst (λ (o : Option ℕ). Comes doc timeout o (G.told f) (G.told after) now found) (sym (start_same i found of_found)) seen.comes

    look_goes : next core ≡ Probe i → Goes (found ∷ []) (slice_set hosts i after)
    look_goes is =
        let one = probing_one i now answer in
        let of = probing_of i found one in
        goes_on G doc timeout limit first steps core hosts holds now (Probe i) (λ e. let c : Probe i ≡ Finish = sym is ∙ e in cc) is found one of.node (found, one, refl)
        (λ j apart. or_from (is_start_of j found) false (other_start i j apart found of.node) refl)
        (λ j apart. or_from (is_good_of j found) false (other_good i j apart found of.node) refl)
        (one_only found) before after is_before
        (record { node_is = look_holds; comes = look_comes; later = call.later })

  -- ---- a commit

  module _ (i : ℕ) (may : MayCommit core i) (answer : Result ⊤ CommitFault) (before after : H) (is_before : slice_get hosts i ≡ Some before)
      (call : Commits G.tells G.honest (G.told before) (G.told after) now answer) where
    abbrev closed : Event
    closed = closing i answer

    module _ (f : H) (at : slice_get first i ≡ Some f) where
      probed : NodeHolds doc timeout (started i steps) (was_good i steps) Probed (G.told f) (G.told before)
      probed = holds.nodes i f before Probed at is_before may.probed

      ended : closes.After G.tells G.honest told doc timeout now i (started i steps) (was_good i steps) (G.told f) (G.told before) (G.told after) probed (call.kept told probed.sound) call.later closed
      ended = closes.of_answer G.tells G.honest told doc timeout now i (started i steps) (was_good i steps) (G.told f) (G.told before) (G.told after) probed (call.kept told probed.sound) call.later answer call

      of_closed : is_start_of i closed ≡ false
      of_closed = (closing_of i closed (closing_one i answer)).0.starts

      close_holds : NodeHolds doc timeout (started i (after_events (closed ∷ []))) (was_good i (after_events (closed ∷ []))) (closed_to closed) (G.told f) (G.told after)
      close_holds =
          subst (λ (o : Option ℕ). NodeHolds doc timeout o (was_good i (after_events (closed ∷ []))) (closed_to closed) (G.told f) (G.told after)) (sym (start_same i closed of_closed))
          (subst (λ (b : Bool). NodeHolds doc timeout (started i steps) b (closed_to closed) (G.told f) (G.told after))
          (sym (good_same i closed of_closed (closing_of i closed (closing_one i answer)).1)) ended.holds)

      close_comes : Comes doc timeout (started i (after_events (closed ∷ []))) (G.told f) (G.told after) now closed
      close_comes = subst (λ (o : Option ℕ). Comes doc timeout o (G.told f) (G.told after) now closed) (sym (start_same i closed of_closed)) ended.comes

    close_goes : next core ≡ Commit i → Goes (closed ∷ []) (slice_set hosts i after)
    close_goes is =
        let one = closing_one i answer in
        let of = closing_of i closed one in
        goes_on G doc timeout limit first steps core hosts holds now (Commit i) (λ e. let c : Commit i ≡ Finish = sym is ∙ e in cc) is closed one of.0.node (closed, one, refl)
        (λ j apart. or_from (is_start_of j closed) false (other_start i j apart closed of.0.node) refl)
        (λ j apart. or_from (is_good_of j closed) false (other_good i j apart closed of.0.node) refl)
        (one_only closed) before after is_before
        (record { node_is = close_holds; comes = close_comes; later = call.later })

  -- ---- a rollback

  module _ (i : ℕ) (answer : Result ⊤ BackFault) (before after : H) (is_before : slice_get hosts i ≡ Some before) (call : TakesBack G.tells G.honest (G.told before) (G.told after) answer) where
    abbrev returned : Event
    returned = returning i answer

    of_returned : is_start_of i returned ≡ false
    of_returned = (returning_of i returned (returning_one i answer)).0.starts

    module _ (f : H) (state : NodeState) (node : NodeHolds doc timeout (started i steps) (was_good i steps) state (G.told f) (G.told before))
        (waits : WaitsSince doc timeout (standing (G.told f).state) (started i steps) (standing (G.told before).state)) where
      gone : returns.After G.tells G.honest trust told doc timeout now i (started i steps) (was_good i steps) state (G.told f) (G.told before) (G.told after) node (lawful before) waits (call.kept trust node.sound) call.later returned
      gone = returns.of_answer G.tells G.honest trust told doc timeout now i (started i steps) (was_good i steps) state (G.told f) (G.told before) (G.told after) node (lawful before) waits (call.kept trust node.sound) call.later answer call

      back_holds : NodeHolds doc timeout (started i (after_events (returned ∷ []))) (was_good i (after_events (returned ∷ []))) (back_to returned) (G.told f) (G.told after)
      back_holds =
          subst (λ (o : Option ℕ). NodeHolds doc timeout o (was_good i (after_events (returned ∷ []))) (back_to returned) (G.told f) (G.told after)) (sym (start_same i returned of_returned))
          (subst (λ (b : Bool). NodeHolds doc timeout (started i steps) b (back_to returned) (G.told f) (G.told after))
          (sym (good_same i returned of_returned (returning_of i returned (returning_one i answer)).1)) gone.holds)

      back_comes : Comes doc timeout (started i (after_events (returned ∷ []))) (G.told f) (G.told after) now returned
      back_comes = subst (λ (o : Option ℕ). Comes doc timeout o (G.told f) (G.told after) now returned) (sym (start_same i returned of_returned)) gone.comes

    module _ (may : MayTakeBack core i) (f : H) (at : slice_get first i ≡ Some f) where
      node_back : NodeHolds doc timeout (started i (after_events (returned ∷ []))) (was_good i (after_events (returned ∷ []))) (back_to returned) (G.told f) (G.told after)
      node_back = elim may.at [
        | inl opened ↦ let node = holds.nodes i f before Opened at is_before opened in back_holds f Opened node node.reads
        | inr probed ↦ let node = holds.nodes i f before Probed at is_before probed in back_holds f Probed node node.reads.1
      ]

      node_comes : Comes doc timeout (started i (after_events (returned ∷ []))) (G.told f) (G.told after) now returned
      node_comes = elim may.at [
        | inl opened ↦ let node = holds.nodes i f before Opened at is_before opened in back_comes f Opened node node.reads
        | inr probed ↦ let node = holds.nodes i f before Probed at is_before probed in back_comes f Probed node node.reads.1
      ]

    back_goes : MayTakeBack core i → next core ≡ Rollback i → Goes (returned ∷ []) (slice_set hosts i after)
    back_goes may is =
        let one = returning_one i answer in
        let of = returning_of i returned one in
        goes_on G doc timeout limit first steps core hosts holds now (Rollback i) (λ e. let c : Rollback i ≡ Finish = sym is ∙ e in cc) is returned one of.0.node (returned, one, refl)
        (λ j apart. or_from (is_start_of j returned) false (other_start i j apart returned of.0.node) refl)
        (λ j apart. or_from (is_good_of j returned) false (other_good i j apart returned of.0.node) refl)
        (one_only returned) before after is_before
        (record { node_is = node_back may; comes = node_comes may; later = call.later })

  -- ---- each action

  moved : (events to : List Event) (new set : List H) → events ≡ to → new ≡ set → Goes to set → Goes events new
  moved events to new set told_is is goes = subst (λ (l : List Event). Goes l new) (sym told_is) (subst (λ (l : List H). Goes to l) (sym is) goes)

  by_action : (a : Action) → next core ≡ a → a ≢ Finish → (new : List H) (events : List Event) → NextSays core a → Did G (change doc timeout now) a hosts new events → Goes events new
  by_action (Start i) is some new events may did =
      let on = did.1 in moved events _ new _ did.2 on.is_after (start_goes i may did.0 on.before on.after on.is_before on.called is)
  by_action (Probe i) is some new events may did =
      let on = did.1 in moved events _ new _ did.2 on.is_after (look_goes i may did.0 on.before on.after on.is_before on.called is)
  by_action (Commit i) is some new events may did =
      let on = did.1 in moved events _ new _ did.2 on.is_after (close_goes i may did.0 on.before on.after on.is_before on.called is)
  by_action (Rollback i) is some new events may did =
      let on = did.1 in moved events _ new _ did.2 on.is_after (back_goes i did.0 on.before on.after on.is_before on.called may is)
  by_action Finish is some new events may did = absurd (some refl)

  -- what was done keeps what holds
  pub goes : (new : List H) (events : List Event) → next core ≢ Finish → Did G (change doc timeout now) (next core) hosts new events → Goes events new
  goes new events some did = by_action (next core) refl some new events (next_says core) did
