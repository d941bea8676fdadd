-- The steps of a rollout over hosts, one after another.
use Rattle.std.specs.Prelude.{◌≡◌, ◌≢◌, ◌<◌, ℕ, Bool, true, false, List, [], ◌∷◌, length, map, Option, Some, None}
use Rattle.document_model.specs.declared.Doc.{Doc}
use Rattle.host_core.specs.Clocks.{Ticks}
use Rattle.host_core.specs.declared.Host.{Ghosts as HostGhosts}
use Rattle.host_core.specs.declared.Clock.{Ghosts as ClockGhosts}
use Rattle.host_core.specs.declared.Sink.{Ghosts as SinkGhosts}
use Rattle.rollout_model.specs.Rollout.{Rollout}
use Rattle.rollout_model.specs.Steps.{run}
use Rattle.rollout_model.specs.Next.{next}
use Rattle.rollout_model.specs.Rolls.{Carries, IsFinished, work}
use Rattle.rollout_model.specs.declared.node.Event.{Event}
use Rattle.rollout_model.specs.declared.node.Action.TheVariants.{Finish}
use Rattle.rollout_core.specs.Calm.{first_halting}
use Rattle.rollout_core.specs.Did.{Did, change}
use Rattle.rollout_core.specs.Trace.{Stepped}
use Rattle.rollout_run.specs.Texts.{event_lines}
use Rattle.rollout_run.specs.Printing.{Prints}
use Rattle.rollout_run.specs.declared.roll.Ended.{Ended}

-- each step did what was next, on its host and no other, from these hosts and this rollout to those
abbrev pub Goes : {H : Type 0} → HostGhosts H → Doc → ℕ → Rollout → List H → List Stepped → Rollout → List H → Type 0
Goes G doc timeout r hosts [] last ends = (last ≡ r) × (ends ≡ hosts)
Goes {H = H} G doc timeout r hosts (step ∷ steps) last ends = (next r ≢ Finish) × (mid : List H) × Did G (change doc timeout step.at) (next r) hosts mid step.events
    × Goes G doc timeout (run r step.events) mid steps last ends

-- the clock gave this moment
abbrev pub GaveOne : {C : Type 0} → ClockGhosts C → C → ℕ → C → Type 0
GaveOne K old now new = K.tells → Ticks (K.coming old) now (K.coming new)

-- the clock gave these moments, one after another
abbrev pub Gave : {C : Type 0} → ClockGhosts C → C → List ℕ → C → Type 0
Gave K old [] new = new ≡ old
Gave {C = C} K old (now ∷ moments) new = (mid : C) × GaveOne K old now mid × Gave K mid moments new

-- the moments of steps
abbrev pub moments_of : List Stepped → List ℕ
moments_of steps = map (λ (step : Stepped). step.at) steps

-- the first event that halted a rollout: one from before, or the first of these that does
abbrev pub first_of : Option Event → List Event → Option Event
first_of (Some event) more = Some event
first_of None more = first_halting more

-- ---- one step of the loop

-- a step that did something, at the clock's moment, with its lines
pub record Went {H C W : Type 0} (G : HostGhosts H) (K : ClockGhosts C) (S : SinkGhosts W) (doc : Doc) (timeout : ℕ) (core core_after : Rollout) (hosts hosts_after : List H) (clock clock_after : C) (ended ended_after : Ended) (out out_after : W) : Type 0 where
  pub now : ℕ
  pub events : List Event
  pub some : next core ≢ Finish
  pub did : Did G (change doc timeout now) (next core) hosts hosts_after events
  pub carries : Carries (next core) events
  pub core_is : core_after ≡ run core events
  pub many : length hosts_after ≡ length core_after.nodes
  pub less : work core_after < work core
  pub gave : GaveOne K clock now clock_after
  pub halted_by : ended_after.halted_by ≡ first_of ended.halted_by events
  pub prints : Prints S.tells ended.printed (event_lines events) (S.told out) (S.told out_after) ended_after.printed

-- nothing was left to be done, and nothing was
pub record Finishes {H C W : Type 0} (K : ClockGhosts C) (core core_after : Rollout) (hosts hosts_after : List H) (clock clock_after : C) (ended ended_after : Ended) (out out_after : W) : Type 0 where
  pub now : ℕ
  pub finished : IsFinished core
  pub core_is : core_after ≡ core
  pub hosts_are : hosts_after ≡ hosts
  pub gave : GaveOne K clock now clock_after
  pub ended_is : ended_after ≡ ended
  pub out_is : out_after ≡ out

abbrev pub Advances : {H C W : Type 0} → HostGhosts H → ClockGhosts C → SinkGhosts W → Doc → ℕ → Rollout → Rollout → List H → List H → C → C → Ended → Ended → W → W → Bool → Type 0
Advances G K S doc timeout core core_after hosts hosts_after clock clock_after ended ended_after out out_after true =
    Went G K S doc timeout core core_after hosts hosts_after clock clock_after ended ended_after out out_after
Advances G K S doc timeout core core_after hosts hosts_after clock clock_after ended ended_after out out_after false =
    Finishes K core core_after hosts hosts_after clock clock_after ended ended_after out out_after
