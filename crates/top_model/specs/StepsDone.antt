-- The steps of a script that were run so far, for proofs, and the line of the status behind a step, which clauses name.
use Rattle.std.specs.Prelude.{◌≡◌, ◌≤◌, ℕ, Bool, true, false, List, ◌++◌, codes, decimal}
use Rattle.host_core.specs.Faults.{Rose}
use Rattle.host_core.specs.Streams.{SinkView, Appends, AppendsSome}
use Rattle.checkpoint_cell.specs.Settled.{Standing}
use Rattle.engine_model.specs.Sound.{Sound}
use Rattle.top_model.specs.Said.{line}
use Rattle.top_model.specs.Orders.{Text, Inputs}
use Rattle.top_model.specs.Lines.{Timed}
use Rattle.top_model.specs.Runs.{Run, Alone, Quiet, SinkRose, reads, reads_after}
use Rattle.top_model.specs.Told.{cause_of, report_of}
use Rattle.top_model.specs.Scripts.{order_in, step_outcome, status_line, StepGrounds, StepTexts, Folds}

-- a step that no count rose in: its texts, of which the status line is still to come, and what the host reads as
pub record IsStep (inputs : Inputs) (step : Timed) (r : Run) : Type 0 where
  pub said : Text
  pub noted : Text
  pub texts : StepTexts (StepGrounds inputs step (reads r)) (order_in inputs step) (step_outcome inputs step (reads r)).answer (said ++ status_line (cause_of (step_outcome inputs step (reads r)).answer)) noted
  pub to_out : r.sinks_tell → Appends said r.out r.out_after
  pub to_err : r.sinks_tell → Appends noted r.err r.err_after
  pub report : r.report ≡ report_of (cause_of (step_outcome inputs step (reads r)).answer)
  pub stands : reads_after r ≡ (step_outcome inputs step (reads r)).after
  pub sound : Sound r.host_after
  -- the script goes on
  pub goes_on : (r.report.status ≡ 7 → ⊥) × (r.report.status ≡ 8 → ⊥)

-- the steps so far, where no count rose in them
pub record IsSoFar (done : List Timed) (r : Run) : Type 0 where
  pub out : Text
  pub err : Text
  pub last : Standing
  pub folds : Folds r.source.inputs done (reads r) out err last
  pub to_out : r.sinks_tell → Appends out r.out r.out_after
  pub to_err : r.sinks_tell → Appends err r.err r.err_after
  pub stands : reads_after r ≡ last
  pub sound : Sound r.host_after

-- the steps so far: no count fell, and the inputs are the same
pub record SoFar (done : List Timed) (r : Run) : Type 0 where
  pub host : r.host.faults ≤ r.host_after.faults
  pub source : r.source.faults ≤ r.source_after.faults
  pub out : r.out.faults ≤ r.out_after.faults
  pub err : r.err.faults ≤ r.err_after.faults
  pub inputs : r.source_tells → r.source_after.inputs ≡ r.source.inputs
  pub fold : Alone r → r.source_tells → Quiet r → (SinkRose r → ⊥) → IsSoFar done r

-- the status line was written and no count rose, or a sink failed, and a beginning of it was written
pub record StatusWritten (tells : Type 0) (status : ℕ) (old new : SinkView) (done : Bool) : Type 0 where
  pub all : done ≡ true → tells → Appends (line (codes "= " ++ decimal status)) old new
  pub some : tells → AppendsSome (line (codes "= " ++ decimal status)) old new
  pub later : old.faults ≤ new.faults
  pub steady : done ≡ true → new.faults ≡ old.faults
  pub failed : done ≡ false → Rose old.faults new.faults
