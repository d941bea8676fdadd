-- An order that is carried out, whatever words and inputs gave it.
use Rattle.std.specs.Prelude.{◌≡◌, ◌≤◌, ℕ, Bool, List, map, String, string_bytes, Ok}
use Rattle.std.specs.declared.alloc.Global.{Global}
use Rattle.host_core.specs.declared.Host.{Ghosts as HostGhosts}
use Rattle.host_core.specs.declared.Source.{Ghosts as SourceGhosts}
use Rattle.host_core.specs.declared.Sink.{Ghosts as SinkGhosts}
use Rattle.top_model.specs.Orders.{Inputs, Order, order_of}
use Rattle.command_words.specs.Words.{command_of}
use Rattle.top_model.specs.Taking.{TakesAsked, file_read}
use Rattle.top_model.specs.Runs.{run_of}
use Rattle.top_model.specs.Answered.{Answered}
use Rattle.top_model.specs.declared.report.Report.{Report}

-- the words give this order with inputs that the source may have; reading them lost no fault, left the inputs as they were, and took no more
-- than was asked for
pub record IsAsked {S : Type 0} (source : SourceGhosts S) (order : Order) (words : List (String Global)) (in_script : Bool) (src src_after : S) : Type 0 where
  pub inputs : Inputs
  pub may_read : source.tells → inputs ≡ (source.told src).inputs
  pub is : order_of in_script inputs (map string_bytes words) ≡ Ok order
  pub later : (source.told src).faults ≤ (source.told src_after).faults
  pub same : source.tells → (source.told src_after).inputs ≡ (source.told src).inputs
  pub takes : TakesAsked source.tells (source.told src) (source.told src_after) (file_read in_script (command_of (map string_bytes words)))

-- whatever words and inputs gave this order, all that is said of one command is said of the run
abbrev pub Carried : {H S W : Type 0} → HostGhosts H → SourceGhosts S → SinkGhosts W → Order → ℕ → H → H → W → W → W → W → Report → Type 0
Carried {S = S} host source sink order now host_old host_new out_old out_new err_old err_new report =
    (words : List (String Global)) (in_script : Bool) (src src_after : S) → IsAsked source order words in_script src src_after
    → Answered (run_of host source sink words in_script now host_old host_new src src_after out_old out_new err_old err_new report)
