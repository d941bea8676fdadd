-- A whole rollout.
use Rattle.std.specs.Prelude.{◌≡◌, ◌≤◌, ℕ, List, [], ◌∷◌, ◌++◌, length, slice_get, is_some, Some}
use Rattle.document_model.specs.declared.Doc.{Doc}
use Rattle.host_core.specs.declared.Host.{Ghosts as HostGhosts}
use Rattle.host_core.specs.declared.Clock.{Ghosts as ClockGhosts}
use Rattle.host_core.specs.declared.Sink.{Ghosts as SinkGhosts}
use Rattle.rollout_model.specs.Rollout.{Rollout, begun}
use Rattle.rollout_model.specs.Rolls.{Rolls, IsFinished, IsEnd}
use Rattle.rollout_model.specs.Safe.{IsAt}
use Rattle.rollout_model.specs.Steps.{AllAccepted, of_node}
use Rattle.rollout_model.specs.declared.node.NodeState.{NodeState}
use Rattle.rollout_core.specs.Calm.{Calm, Completes, first_halting}
use Rattle.rollout_core.specs.Holding.{Holds, AllClean}
use Rattle.rollout_core.specs.Promises.{Promises}
use Rattle.rollout_core.specs.Trace.{Stepped, told_all, told_each, started, was_good}
use Rattle.rollout_run.specs.Printing.{Prints}
use Rattle.rollout_run.specs.Steps.{Goes, Gave, moments_of}
use Rattle.rollout_run.specs.Texts.{Text, event_lines, summary_line}
use Rattle.rollout_run.specs.declared.printing.Printed.{Printed}
use Rattle.rollout_run.specs.declared.roll.Ended.{Ended}

-- what is printed of a rollout: a line for each event, and one at the end
abbrev pub text_of : List Stepped → Rollout → Text
text_of steps last = event_lines (told_all steps) ++ summary_line last

-- what holds after these steps, where the hosts are honest, were sound before the first and had no checkpoint
pub record Stands {H : Type 0} (G : HostGhosts H) (doc : Doc) (timeout limit : ℕ) (first : List H) (steps : List Stepped) (core : Rollout) (hosts : List H) : Type 0 where
  -- what stands on each node, what stops may have left there at each moment, and why each event came
  pub holds : Holds G doc timeout limit first steps core hosts
  -- what the user of each node may rely on: a checkpoint only where the node is held; the merged network on a committed node and
  -- that of the entry on a restored one; what each stop may have left; and what a recovery leads to
  pub promises : (i : ℕ) (f h : H) (state : NodeState) → slice_get first i ≡ Some f → slice_get hosts i ≡ Some h → IsAt core i state
      → Promises doc timeout (started i steps) (was_good i steps) state (G.told f) (G.told h)

-- a moment between two steps: those before it, those behind it, and what holds there
pub record Between {H : Type 0} (G : HostGhosts H) (doc : Doc) (timeout limit : ℕ) (hosts : List H) (front rest : List Stepped) (last : Rollout) (ends : List H) : Type 0 where
  pub core : Rollout
  pub mid : List H
  pub before : Goes G doc timeout (begun (length hosts) limit) hosts front core mid
  pub behind : Goes G doc timeout core mid rest last ends
  pub stands : Stands G doc timeout limit hosts front core mid

-- A rollout over these hosts, from the first step to the last, after which the rollout is this one.
pub record Rolled {H C W : Type 0} (G : HostGhosts H) (K : ClockGhosts C) (S : SinkGhosts W) (doc : Doc) (timeout limit : ℕ) (hosts ends : List H) (clock clock_after : C) (printed : Printed) (out out_after : W) (last : Rollout) (ended : Ended) : Type 0 where
  pub steps : List Stepped
  -- the moment at which nothing was left to be done
  pub at_end : ℕ
  -- what each step did on its host, and what the host answered: on every host
  pub goes : Goes G doc timeout (begun (length hosts) limit) hosts steps last ends
  -- the events are a run of the table and of what is next, up to the finish, and each was accepted
  pub rolls : Rolls (begun (length hosts) limit) (told_each steps) last
  pub accepted : AllAccepted (begun (length hosts) limit) (told_all steps)
  -- and of no node there are more than four
  pub few : (i : ℕ) → length (of_node i (told_all steps)) ≤ 4
  pub finished : IsFinished last
  -- at the end no node is on the way, and where nothing halted it each is committed: on every host
  pub is_end : 1 ≤ limit → IsEnd last
  -- the k-th step has the k-th moment of the clock
  pub gave : Gave K clock (moments_of steps ++ at_end ∷ []) clock_after
  -- the lines of the events and the one at the end are printed, or a beginning of them where the sink failed
  pub prints : Prints S.tells printed (text_of steps last) (S.told out) (S.told out_after) ended.printed
  -- the first event that halted it is told, and there is one exactly where it is halted
  pub halted_by : ended.halted_by ≡ first_halting (told_all steps)
  pub halted : last.halted ≡ is_some ended.halted_by
  -- after each step all stands as it should
  pub each : G.honest → AllClean G hosts → (front rest : List Stepped) → steps ≡ front ++ rest → Between G doc timeout limit hosts front rest last ends
  pub stands : G.honest → AllClean G hosts → Stands G doc timeout limit hosts steps last ends
  -- where nothing fails, the document fits each node and the clock goes on, each node is committed, or memory ran out
  pub completes : G.honest → AllClean G hosts → 1 ≤ limit → Calm G doc timeout hosts steps ends → Completes steps last
