-- Steps of a rollout with one more behind them, and cut in two.
use Rattle.std.proofs.Common.{◌≡◌, ◌∙◌, ℕ, List, [], ◌∷◌, ◌++◌, refl, ap, sym, subst, append-nil, append_assoc}
use Rattle.std.specs.Prelude.{◌≢◌}
use Rattle.document_model.specs.declared.Doc.{Doc}
use Rattle.host_core.specs.declared.Host.{Ghosts as HostGhosts}
use Rattle.host_core.specs.declared.Clock.{Ghosts as ClockGhosts}
use Rattle.rollout_model.specs.Rollout.{Rollout}
use Rattle.rollout_model.specs.Steps.{run}
use Rattle.rollout_model.specs.Next.{next}
use Rattle.rollout_model.specs.Rolls.{Rolls, Carries}
use Rattle.rollout_model.specs.declared.node.Event.{Event}
use Rattle.rollout_model.specs.declared.node.Action.TheVariants.{Finish}
use Rattle.rollout_core.specs.Did.{Did, change}
use Rattle.rollout_core.specs.Holding.{Holds}
use Rattle.rollout_core.specs.Holdings.{GoesOn}
use Rattle.rollout_core.specs.Trace.{Stepped, told_all, told_each}
use Rattle.rollout_run.specs.Steps.{Goes, GaveOne, Gave, moments_of}

-- ---- one more step

module _ {H : Type 0} (G : HostGhosts H) (doc : Doc) (timeout : ℕ) where
  pub goes_push : (steps : List Stepped) (r core : Rollout) (hosts mid new : List H) (s : Stepped) → Goes G doc timeout r hosts steps core mid → next core ≢ Finish
      → Did G (change doc timeout s.at) (next core) mid new s.events → Goes G doc timeout r hosts (steps ++ s ∷ []) (run core s.events) new
  goes_push [] r core hosts mid new s goes some did = (
    subst (λ (q : Rollout). next q ≢ Finish) goes.0 some,
    new,
    subst (λ (q : Rollout). Did G (change doc timeout s.at) (next q) hosts new s.events) goes.0 (subst (λ (h : List H). Did G (change doc timeout s.at) (next core) h new s.events) goes.1 did),
    (ap (λ (q : Rollout). run q s.events) goes.0, refl),
  )
  goes_push (first ∷ steps) r core hosts mid new s goes some did =
      (goes.0, goes.1, goes.2, goes_push steps (run r first.events) core goes.1 mid new s goes.3 some did)

  -- ---- cut in two

  pub record Cut (front rest : List Stepped) (r : Rollout) (hosts : List H) (last : Rollout) (ends : List H) : Type 0 where
    pub core : Rollout
    pub mid : List H
    pub before : Goes G doc timeout r hosts front core mid
    pub behind : Goes G doc timeout core mid rest last ends

  pub goes_cut : (front rest : List Stepped) (r : Rollout) (hosts : List H) (last : Rollout) (ends : List H) → Goes G doc timeout r hosts (front ++ rest) last ends → Cut front rest r hosts last ends
  goes_cut [] rest r hosts last ends goes = record { core = r; mid = hosts; before = (refl, refl); behind = goes }
  goes_cut (s ∷ front) rest r hosts last ends goes =
      let cut = goes_cut front rest (run r s.events) goes.1 last ends goes.3 in
      record { core = cut.core; mid = cut.mid; before = (goes.0, goes.1, goes.2, cut.before); behind = cut.behind }

  -- ---- what holds goes on to hold along them

  module _ (goes_on : GoesOn G) (limit : ℕ) (first : List H) where
    pub holds_along : (steps so_far : List Stepped) (core : Rollout) (hosts : List H) (last : Rollout) (ends : List H) → Holds G doc timeout limit first so_far core hosts
        → Goes G doc timeout core hosts steps last ends → Holds G doc timeout limit first (so_far ++ steps) last ends
    holds_along [] so_far core hosts last ends holds goes =
        subst (λ (l : List Stepped). Holds G doc timeout limit first l last ends) (sym (append-nil so_far))
        (subst (λ (q : Rollout). Holds G doc timeout limit first so_far q ends) (sym goes.0)
        (subst (λ (h : List H). Holds G doc timeout limit first so_far core h) (sym goes.1) holds))
    holds_along (s ∷ steps) so_far core hosts last ends holds goes =
        let more : Holds G doc timeout limit first (so_far ++ s ∷ []) (run core s.events) goes.1 = goes_on doc timeout limit first so_far core hosts holds s.at goes.1 s.events goes.0 goes.2 in
        subst (λ (l : List Stepped). Holds G doc timeout limit first l last ends) (append_assoc so_far (s ∷ []) steps)
        (holds_along steps (so_far ++ s ∷ []) (run core s.events) goes.1 last ends more goes.3)

-- ---- moments, and the events alone

module _ {C : Type 0} (K : ClockGhosts C) where
  pub gave_push : (moments : List ℕ) (now : ℕ) (old mid new : C) → Gave K old moments mid → GaveOne K mid now new → Gave K old (moments ++ now ∷ []) new
  gave_push [] now old mid new gave one = (new, subst (λ (c : C). GaveOne K c now new) gave one, refl)
  gave_push (first ∷ moments) now old mid new gave one = (gave.0, gave.1, gave_push moments now gave.0 mid new gave.2 one)

pub moments_push : (steps : List Stepped) (s : Stepped) → moments_of (steps ++ s ∷ []) ≡ moments_of steps ++ s.at ∷ []
moments_push [] s = refl
moments_push (first ∷ steps) s = ap (λ (l : List ℕ). first.at ∷ l) (moments_push steps s)

pub rolls_push : (steps : List (List Event)) (r last : Rollout) (events : List Event) → Rolls r steps last → next last ≢ Finish → Carries (next last) events → Rolls r (steps ++ events ∷ []) (run last events)
rolls_push [] r last events rolls some by =
    (subst (λ (q : Rollout). next q ≢ Finish) rolls some, subst (λ (q : Rollout). Carries (next q) events) rolls by, ap (λ (q : Rollout). run q events) rolls)
rolls_push (first ∷ steps) r last events rolls some by = (rolls.0, rolls.1, rolls_push steps (run r first) last events rolls.2 some by)

pub each_push : (steps : List Stepped) (s : Stepped) → told_each (steps ++ s ∷ []) ≡ told_each steps ++ s.events ∷ []
each_push [] s = refl
each_push (first ∷ steps) s = ap (λ (l : List (List Event)). first.events ∷ l) (each_push steps s)

pub all_push : (steps : List Stepped) (s : Stepped) → told_all (steps ++ s ∷ []) ≡ told_all steps ++ s.events
all_push [] s = append-nil s.events
all_push (first ∷ steps) s = ap (λ (l : List Event). first.events ++ l) (all_push steps s) ∙ sym (append_assoc first.events (told_all steps) s.events)
