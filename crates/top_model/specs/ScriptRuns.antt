-- All that is said of the steps of a script that was run, whatever fails in them and wherever they are stopped.
use Rattle.std.specs.Prelude.{◌≡◌, ◌≤◌, List, [], ◌∷◌, Option, Some, Ok}
use Rattle.net_model.specs.declared.Link.{Link}
use Rattle.host_core.specs.declared.Source.{Ghosts as SourceGhosts}
use Rattle.host_core.specs.declared.Sink.{Ghosts as SinkGhosts}
use Rattle.host_core.specs.declared.Host.{Ghosts as HostGhosts}
use Rattle.engine_model.specs.Stations.{left_by}
use Rattle.top_model.specs.Said.{Said}
use Rattle.command_words.specs.Words.{command_of}
use Rattle.top_model.specs.Orders.{Text, making}
use Rattle.top_model.specs.Lines.{Timed}
use Rattle.top_model.specs.Taking.{Took}
use Rattle.top_model.specs.Scripts.{file_of}
use Rattle.top_model.specs.StepsRun.{World, world, with_out, WentOn, Went, EndsWith, StepsRun}
use Rattle.top_model.specs.WholeRuns.{Ran, all_rans, Begins, IsWhole}
use Rattle.top_model.specs.ScriptFaults.{Counts, FewFaults, ExplainedFrom}
use Rattle.top_model.specs.declared.report.Report.{Report}

module _ {X Y Z : Type 0} (H : HostGhosts X) (S : SourceGhosts Y) (W : SinkGhosts Z) where
  abbrev pub counts_of : World X Y Z → Counts
  counts_of w = record { host = (H.told w.host).faults; source = (S.told w.source).faults; out = (W.told w.out).faults; err = (W.told w.err).faults }

  -- what these steps may have left, how many of them faults spoiled, and what the statuses of the others say
  pub record Facts (old new : World X Y Z) (rans : List Ran) : Type 0 where
    pub whole : IsWhole (H.told old.host) (H.told new.host) rans
    pub few : FewFaults (counts_of old) (counts_of new) rans
    pub explained : ExplainedFrom (left_by (H.told old.host)) [] rans

  -- a first network was made
  pub record IsMaking (step : Timed) (old told : World X Y Z) (out : Z) (on : WentOn H S W step old told out) : Type 0 where
    pub links : List Link
    pub said : Said
    pub is : on.answered.order ≡ Ok (making links)
    pub done : on.answered.answer ≡ Ok said

  -- of the run from the start, and from each later step on: where the host is honest and sound there and has a network. Behind
  -- the making of a first network it is so
  abbrev pub OnEach : (done more : List Timed) (old mid new : World X Y Z) (report : Report) → Went H S W done old mid → EndsWith H S W more mid new report → Type 0
  OnEach [] more old mid new report went end = Begins H.honest (H.told old.host) → Facts old new (all_rans H S W [] more old mid new report went end)
  OnEach (step ∷ done) more old mid new report went end =
      (Begins H.honest (H.told old.host) → Facts old new (all_rans H S W (step ∷ done) more old mid new report went end))
      × (IsMaking step old went.0 went.1 went.2 → H.honest → Begins H.honest (H.told went.0.host))
      × OnEach done more (with_out went.0 went.1) mid new report went.3 end

  -- each step was answered as a command of its own, and what follows for all of them
  pub record ScriptRun (steps : List Timed) (old new : World X Y Z) (report : Report) : Type 0 where
    pub run : StepsRun H S W steps old new report
    pub each : OnEach run.done run.more old run.mid new report run.went run.end

  -- the lines of the FILE of these words were read, of which no more than the limit of a document and one byte was taken, and then
  -- the steps were run
  pub record RanFrom (words : List Text) (old new : World X Y Z) (report : Report) (steps : List Timed) : Type 0 where
    pub file : Option Text
    pub is_file : file_of (command_of words) ≡ Some file
    pub source : Y
    pub takes : S.tells → Took (S.told old.source) (S.told source) file
    pub inputs : S.tells → (S.told source).inputs ≡ (S.told old.source).inputs
    pub later : (S.told old.source).faults ≤ (S.told source).faults
    pub ran : ScriptRun steps (world old.host source old.out old.err) new report
