-- All that is promised of one command, and of the words that the program is given.
use Rattle.std.specs.Prelude.{◌≡◌, List, Option, Some, false, map, String, string_bytes}
use Rattle.std.specs.declared.alloc.Global.{Global}
use Rattle.host_core.specs.declared.Clock.{Ghosts as ClockGhosts}
use Rattle.host_core.specs.declared.Host.{Ghosts as HostGhosts}
use Rattle.host_core.specs.declared.Sink.{Ghosts as SinkGhosts}
use Rattle.host_core.specs.declared.Source.{Ghosts as SourceGhosts}
use Rattle.command_words.specs.Words.{command_of}
use Rattle.top_model.specs.Answered.{Answered}
use Rattle.top_model.specs.Headline.{Headline}
use Rattle.top_model.specs.Moments.{AtMoment}
use Rattle.top_model.specs.Orders.{Text}
use Rattle.top_model.specs.Promises.{Complete, AppliesAsDocument, DoneOnly, RefusedExactly, CommitTakesNone, StandsApart, Statuses, Texts}
use Rattle.top_model.specs.Runs.{Run, run_of}
use Rattle.top_model.specs.ScriptRuns.{RanFrom}
use Rattle.top_model.specs.Scripts.{IsScript, ScriptAnswered, file_of}
use Rattle.top_model.specs.Simulated.{Simulated}
use Rattle.top_model.specs.StepsRun.{world}
use Rattle.top_model.specs.Undisturbed.{Undisturbed}
use Rattle.top_model.specs.declared.report.Report.{Report}

pub record Promised (r : Run) : Type 0 where
  -- every valid running state, document and pattern of faults, in one sentence
  pub headline : Headline r
  -- the answer, when it comes, which kernel calls were refused before it, what was tried, what it leaves, and how it is told
  pub answered : Answered r
  -- what the report says of it: where no fault came, and with faults
  pub complete : Complete r
  pub done : DoneOnly r
  pub refused : RefusedExactly r
  pub memory : CommitTakesNone r
  pub status : Statuses r
  -- a policy is applied as its document
  pub policies : AppliesAsDocument r
  -- what is written, on every host
  pub texts : Texts r
  -- what an apply leaves alone on its way
  pub undisturbed : Undisturbed r
  -- a plan that was printed as lines of ip(8), tried out, leads to the merged network
  pub simulated : Simulated r
  -- a workload has a host of its own
  pub apart : StandsApart r

module _ {X Y Z T : Type 0} (H : HostGhosts X) (S : SourceGhosts Y) (W : SinkGhosts Z) (C : ClockGhosts T) where
  -- of all words of the command line, where the clock, the host and the streams were these before and after
  pub record Commanded (words : List (String Global)) (clock clock_after : T) (host host_after : X) (src src_after : Y) (out out_after err err_after : Z) (report : Report) : Type 0 where
    -- a command but `script`, at the one moment that the clock gives
    pub command : AtMoment C clock clock_after words (λ now. Promised (run_of H S W words false now host host_after src src_after out out_after err err_after report))
    -- a script reads all its lines, and is then the fold of its steps; what its steps may leave, whatever fails in them
    pub script : IsScript (run_of H S W words false 0 host host_after src src_after out out_after err err_after report)
        (RanFrom H S W (map string_bytes words) (world host src out err) (world host_after src_after out_after err_after) report)
    -- the words of a script read its FILE and run its steps, also where the source doesn't tell what it holds
    pub ran : (file : Option Text) → file_of (command_of (map string_bytes words)) ≡ Some file
        → ScriptAnswered (run_of H S W words false 0 host host_after src src_after out out_after err err_after report)
        (RanFrom H S W (map string_bytes words) (world host src out err) (world host_after src_after out_after err_after) report)
