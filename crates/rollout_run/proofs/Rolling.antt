-- The steps so far, and all of them.
use Rattle.std.proofs.Common.{◌≡◌, inl, inr, ◌∙◌, ℕ, Bool, ◌||◌, List, [], ◌∷◌, ◌++◌, length, refl, ap, sym, subst, Option, Some, None}
use Rattle.std.specs.Prelude.{is_some}
use Rattle.std.specs.List.{list_any}
use Rattle.std.proofs.lemmas.Bool.{cases_Bool, cond-true, cond-false}
use Rattle.std.proofs.lemmas.List.{length-replicate}
use Rattle.document_model.specs.declared.Doc.{Doc}
use Rattle.host_core.specs.declared.Host.{Ghosts as HostGhosts}
use Rattle.host_core.specs.declared.Clock.{Ghosts as ClockGhosts}
use Rattle.host_core.specs.declared.Sink.{Ghosts as SinkGhosts}
use Rattle.rollout_model.specs.Rollout.{Rollout, begun}
use Rattle.rollout_model.specs.Laws.{IsSafe}
use Rattle.rollout_model.specs.Going.{Ends}
use Rattle.rollout_model.specs.Rolls.{Rolls, Carries, IsFinished}
use Rattle.rollout_model.specs.Safe.{is_halting}
use Rattle.rollout_model.specs.Steps.{run, accepted, AllAccepted}
use Rattle.rollout_model.specs.declared.node.NodeState.TheVariants.{Fresh}
use Rattle.rollout_model.specs.declared.node.Event.{Event}
use Rattle.rollout_model.specs.declared.node.Event.TheVariants as ev
use Rattle.rollout_model.specs.declared.node.Action.{Action}
use Rattle.rollout_model.specs.declared.node.Action.TheVariants.{Start, Probe, Commit, Rollback, Finish}
use Rattle.rollout_model.proofs.lemmas.Together.{run_together, accepted_together}
use Rattle.rollout_core.specs.Calm.{first_halting}
use Rattle.rollout_core.specs.Holding.{Holds, AllClean}
use Rattle.rollout_core.specs.Holdings.{Begins, GoesOn, KeepsPromises, CommitsAll}
use Rattle.rollout_core.specs.Trace.{Stepped, told_all, told_each}
use Rattle.rollout_run.specs.Printing.{Prints}
use Rattle.rollout_run.specs.Steps.{Goes, Gave, moments_of, first_of, Went, Finishes}
use Rattle.rollout_run.specs.Texts.{event_lines, summary_line}
use Rattle.rollout_run.specs.Whole.{Stands, Between, Rolled}
use Rattle.rollout_run.specs.declared.printing.Printed.{Printed}
use Rattle.rollout_run.specs.declared.roll.Ended.{Ended}
use Rattle.rollout_run.proofs.Few.{joined_all, few_told}
use Rattle.rollout_run.proofs.Going.{goes_push, goes_cut, holds_along, gave_push, moments_push, rolls_push, each_push, all_push}
use Rattle.rollout_run.proofs.Prints.{prints_nothing, prints_lines, prints_more}

-- ---- what is next where nothing is told

-- only the finish tells nothing
pub finish_by : (a : Action) → Carries a [] → a ≡ Finish
finish_by (Start i) by = let e : [] ≡ ev.Start i ∷ by.0 ∷ [] = by.2 in absurd (cc)
finish_by (Probe i) by = let e : [] ≡ by.0 ∷ [] = by.2 in absurd (cc)
finish_by (Commit i) by = let e : [] ≡ by.0 ∷ [] = by.2 in absurd (cc)
finish_by (Rollback i) by = let e : [] ≡ by.0 ∷ [] = by.2 in absurd (cc)
finish_by Finish by = refl

-- and it tells nothing
pub finish_tells : (a : Action) (events : List Event) → Carries a events → a ≡ Finish → events ≡ []
finish_tells a events by is = subst (λ (x : Action). Carries x events) is by

-- ---- the event that halts

pub first_append : (xs ys : List Event) → first_halting (xs ++ ys) ≡ first_of (first_halting xs) ys
first_append [] ys = refl
first_append (x ∷ xs) ys = elim (cases_Bool (is_halting x)) [
  | inl sure ↦ cond-true (is_halting x) (Some x) (first_halting (xs ++ ys)) sure ∙ sym (ap (λ (o : Option Event). first_of o ys) (cond-true (is_halting x) (Some x) (first_halting xs) sure))
  | inr not_so ↦
      cond-false (is_halting x) (Some x) (first_halting (xs ++ ys)) not_so ∙ (first_append xs ys
      ∙ sym (ap (λ (o : Option Event). first_of o ys) (cond-false (is_halting x) (Some x) (first_halting xs) not_so)))
]

any_first : (xs : List Event) → list_any is_halting xs ≡ is_some (first_halting xs)
any_first [] = refl
any_first (x ∷ xs) = elim (cases_Bool (is_halting x)) [
  | inl sure ↦ ap (λ (b : Bool). b || list_any is_halting xs) sure ∙ sym (ap is_some (cond-true (is_halting x) (Some x) (first_halting xs) sure))
  | inr not_so ↦ ap (λ (b : Bool). b || list_any is_halting xs) not_so ∙ (any_first xs ∙ sym (ap is_some (cond-false (is_halting x) (Some x) (first_halting xs) not_so)))
]

-- ---- the steps so far

module _ {H C W : Type 0} (G : HostGhosts H) (K : ClockGhosts C) (S : SinkGhosts W) (doc : Doc) (timeout limit : ℕ) (hosts : List H) (clock : C) (printed : Printed) (out : W) where
  pub record SoFar (mid : List H) (clock_mid : C) (out_mid : W) (core : Rollout) (ended : Ended) : Type 0 where
    pub steps : List Stepped
    pub goes : Goes G doc timeout (begun (length hosts) limit) hosts steps core mid
    pub rolls : Rolls (begun (length hosts) limit) (told_each steps) core
    pub many : length mid ≡ length core.nodes
    pub gave : Gave K clock (moments_of steps) clock_mid
    pub prints : Prints S.tells printed (event_lines (told_all steps)) (S.told out) (S.told out_mid) ended.printed
    pub halted_by : ended.halted_by ≡ first_halting (told_all steps)

  -- none yet
  pub so_far_none : (core : Rollout) (ended : Ended) → core ≡ begun (length hosts) limit → ended ≡ record { halted_by = None; printed = printed } → SoFar hosts clock out core ended
  so_far_none core ended is_core is_ended =
      let many : length hosts ≡ length (begun (length hosts) limit).nodes = sym (length-replicate (length hosts) Fresh) in
      record {
        steps = [];
        goes = (is_core, refl);
        rolls = is_core;
        many = many ∙ ap (λ (r : Rollout). length r.nodes) (sym is_core);
        gave = refl;
        prints = subst (λ (p : Printed). Prints S.tells printed [] (S.told out) (S.told out) p) (ap (λ (e : Ended). e.printed) (sym is_ended)) (prints_nothing S.tells printed (S.told out));
        halted_by = ap (λ (e : Ended). e.halted_by) is_ended;
      }

  -- and one more
  pub so_far_more : (mid new : List H) (clock_mid clock_new : C) (out_mid out_new : W) (core core_new : Rollout) (ended ended_new : Ended) → SoFar mid clock_mid out_mid core ended
      → Went G K S doc timeout core core_new mid new clock_mid clock_new ended ended_new out_mid out_new → SoFar new clock_new out_new core_new ended_new
  so_far_more mid new clock_mid clock_new out_mid out_new core core_new ended ended_new so_far went =
      let s : Stepped = record { at = went.now; events = went.events } in
      record {
        steps = so_far.steps ++ s ∷ [];
        goes = subst (λ (q : Rollout). Goes G doc timeout (begun (length hosts) limit) hosts (so_far.steps ++ s ∷ []) q new) (sym went.core_is)
            (goes_push G doc timeout so_far.steps (begun (length hosts) limit) core hosts mid new s so_far.goes went.some went.did);
        rolls = subst (λ (q : Rollout). Rolls (begun (length hosts) limit) (told_each (so_far.steps ++ s ∷ [])) q) (sym went.core_is)
            (subst (λ (l : List (List Event)). Rolls (begun (length hosts) limit) l (run core went.events)) (sym (each_push so_far.steps s))
            (rolls_push (told_each so_far.steps) (begun (length hosts) limit) core went.events so_far.rolls went.some went.carries));
        many = went.many;
        gave = subst (λ (l : List ℕ). Gave K clock l clock_new) (sym (moments_push so_far.steps s)) (gave_push K (moments_of so_far.steps) went.now clock clock_mid clock_new so_far.gave went.gave);
        prints = subst (λ (l : List Event). Prints S.tells printed (event_lines l) (S.told out) (S.told out_new) ended_new.printed) (sym (all_push so_far.steps s))
            (prints_lines S.tells printed ended.printed ended_new.printed (told_all so_far.steps) went.events (S.told out) (S.told out_mid) (S.told out_new) so_far.prints went.prints);
        halted_by = went.halted_by ∙ (ap (λ (o : Option Event). first_of o went.events) so_far.halted_by
            ∙ (sym (first_append (told_all so_far.steps) went.events) ∙ ap first_halting (sym (all_push so_far.steps s))));
      }

  -- ---- all of them

  all_accepted : (steps : List Stepped) (last : Rollout) → Rolls (begun (length hosts) limit) (told_each steps) last → AllAccepted (begun (length hosts) limit) (told_all steps)
  all_accepted steps last rolls = subst (λ (l : List Event). accepted (begun (length hosts) limit) l ≡ l) (joined_all steps) (accepted_together (told_each steps) (begun (length hosts) limit) last rolls)

  last_is : (steps : List Stepped) (last : Rollout) → Rolls (begun (length hosts) limit) (told_each steps) last → last ≡ run (begun (length hosts) limit) (told_all steps)
  last_is steps last rolls = run_together (told_each steps) (begun (length hosts) limit) last rolls ∙ ap (run (begun (length hosts) limit)) (joined_all steps)

  halted_where : IsSafe → (steps : List Stepped) (last : Rollout) → Rolls (begun (length hosts) limit) (told_each steps) last → last.halted ≡ is_some (first_halting (told_all steps))
  halted_where safe steps last rolls =
      ap (λ (r : Rollout). r.halted) (last_is steps last rolls)
      ∙ ((safe (length hosts) limit (told_all steps)).halted
      ∙ (ap (list_any is_halting) (all_accepted steps last rolls) ∙ any_first (told_all steps)))

  module _ (begins : G.honest → Begins G) (goes_on : G.honest → GoesOn G) (promises : G.honest → KeepsPromises G) (commits_all : G.honest → CommitsAll G) where
    stands_then : G.honest → AllClean G hosts → (steps : List Stepped) (core : Rollout) (mid : List H) → Goes G doc timeout (begun (length hosts) limit) hosts steps core mid
        → Stands G doc timeout limit hosts steps core mid
    stands_then trust clean steps core mid goes =
        let holds : Holds G doc timeout limit hosts steps core mid =
        holds_along G doc timeout (goes_on trust) limit hosts steps [] (begun (length hosts) limit) hosts core mid (begins trust doc timeout limit hosts clean) goes in
        record { holds = holds; promises = promises trust doc timeout limit hosts steps core mid holds }

    between : G.honest → AllClean G hosts → (steps front rest : List Stepped) (last : Rollout) (ends : List H) → Goes G doc timeout (begun (length hosts) limit) hosts steps last ends → steps ≡ front ++ rest
        → Between G doc timeout limit hosts front rest last ends
    between trust clean steps front rest last ends goes is =
        let cut = goes_cut G doc timeout front rest (begun (length hosts) limit) hosts last ends (subst (λ (l : List Stepped). Goes G doc timeout (begun (length hosts) limit) hosts l last ends) is goes) in
        record { core = cut.core; mid = cut.mid; before = cut.before; behind = cut.behind; stands = stands_then trust clean front cut.core cut.mid cut.before }

    -- nothing was left to be done, and the line at the end was printed
    pub rolled : IsSafe → Ends → (mid ends : List H) (clock_mid clock_after : C) (out_mid out_then out_after : W) (core last : Rollout) (ended stopped ended_after : Ended)
        → SoFar mid clock_mid out_mid core ended → Finishes K core last mid ends clock_mid clock_after ended stopped out_mid out_then
        → Prints S.tells stopped.printed (summary_line last) (S.told out_then) (S.told out_after) ended_after.printed → ended_after.halted_by ≡ stopped.halted_by
        → Rolled G K S doc timeout limit hosts ends clock clock_after printed out out_after last ended_after
    rolled safe at_finish mid ends clock_mid clock_after out_mid out_then out_after core last ended stopped ended_after so_far finishes prints same =
        let goes : Goes G doc timeout (begun (length hosts) limit) hosts so_far.steps last ends =
        subst (λ (q : Rollout). Goes G doc timeout (begun (length hosts) limit) hosts so_far.steps q ends) (sym finishes.core_is)
        (subst (λ (h : List H). Goes G doc timeout (begun (length hosts) limit) hosts so_far.steps core h) (sym finishes.hosts_are) so_far.goes) in
        let rolls : Rolls (begun (length hosts) limit) (told_each so_far.steps) last =
        subst (λ (q : Rollout). Rolls (begun (length hosts) limit) (told_each so_far.steps) q) (sym finishes.core_is) so_far.rolls in
        let finished : IsFinished last = subst (λ (q : Rollout). IsFinished q) (sym finishes.core_is) finishes.finished in
        let lines : Prints S.tells printed (event_lines (told_all so_far.steps)) (S.told out) (S.told out_then) stopped.printed =
        subst (λ (w : W). Prints S.tells printed (event_lines (told_all so_far.steps)) (S.told out) (S.told w) stopped.printed) (sym finishes.out_is)
        (subst (λ (e : Ended). Prints S.tells printed (event_lines (told_all so_far.steps)) (S.told out) (S.told out_mid) e.printed) (sym finishes.ended_is) so_far.prints) in
        let halted_by : ended_after.halted_by ≡ first_halting (told_all so_far.steps) = same ∙ (ap (λ (e : Ended). e.halted_by) finishes.ended_is ∙ so_far.halted_by) in
        record {
          steps = so_far.steps;
          at_end = finishes.now;
          goes = goes;
          rolls = rolls;
          accepted = all_accepted so_far.steps last rolls;
          few = λ i. few_told so_far.steps (begun (length hosts) limit) last rolls i;
          finished = finished;
          is_end = λ some. at_finish (length hosts) limit (told_each so_far.steps) last some rolls finished;
          gave = gave_push K (moments_of so_far.steps) finishes.now clock clock_mid clock_after so_far.gave finishes.gave;
          prints = prints_more S.tells printed stopped.printed ended_after.printed (event_lines (told_all so_far.steps)) (summary_line last) (S.told out) (S.told out_then) (S.told out_after) lines prints;
          halted_by = halted_by;
          halted = halted_where safe so_far.steps last rolls ∙ ap is_some (sym halted_by);
          each = λ trust clean front rest is. between trust clean so_far.steps front rest last ends goes is;
          stands = λ trust clean. stands_then trust clean so_far.steps last ends goes;
          completes = λ trust clean some calm.
              let now = stands_then trust clean so_far.steps last ends goes in
              commits_all trust doc timeout limit hosts so_far.steps last ends now.holds some finished calm;
        }
