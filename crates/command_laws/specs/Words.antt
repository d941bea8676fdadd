-- What comes of words at a moment, whether they are a command or a script.
use Rattle.std.specs.Prelude.{◌≡◌, ℕ, List, Option, Some, None, false, map, String, string_bytes}
use Rattle.std.specs.declared.alloc.Global.{Global}
use Rattle.host_core.specs.declared.Host.{Ghosts as HostGhosts}
use Rattle.host_core.specs.declared.Sink.{Ghosts as SinkGhosts}
use Rattle.host_core.specs.declared.Source.{Ghosts as SourceGhosts}
use Rattle.command_words.specs.Words.{command_of}
use Rattle.top_model.specs.Answered.{Answered}
use Rattle.top_model.specs.Orders.{Text}
use Rattle.top_model.specs.Promises.{StandsApart}
use Rattle.top_model.specs.Runs.{run_of}
use Rattle.top_model.specs.ScriptRuns.{RanFrom}
use Rattle.top_model.specs.Scripts.{IsScript, ScriptAnswered, file_of}
use Rattle.top_model.specs.StepsRun.{world}
use Rattle.top_model.specs.declared.report.Report.{Report}

module _ {X Y Z : Type 0} (H : HostGhosts X) (S : SourceGhosts Y) (W : SinkGhosts Z) where
  pub record RanWords (words : List (String Global)) (now : ℕ) (host host_after : X) (src src_after : Y) (out out_after err err_after : Z) (report : Report) : Type 0 where
    -- a command but `script`
    pub answered : file_of (command_of (map string_bytes words)) ≡ None
        → Answered (run_of H S W words false now host host_after src src_after out out_after err err_after report)
    pub apart : file_of (command_of (map string_bytes words)) ≡ None
        → StandsApart (run_of H S W words false now host host_after src src_after out out_after err err_after report)
    -- a script, where the source tells what it holds, and where it doesn't
    pub script : IsScript (run_of H S W words false 0 host host_after src src_after out out_after err err_after report)
        (RanFrom H S W (map string_bytes words) (world host src out err) (world host_after src_after out_after err_after) report)
    pub ran : (file : Option Text) → file_of (command_of (map string_bytes words)) ≡ Some file
        → ScriptAnswered (run_of H S W words false 0 host host_after src src_after out out_after err err_after report)
        (RanFrom H S W (map string_bytes words) (world host src out err) (world host_after src_after out_after err_after) report)
