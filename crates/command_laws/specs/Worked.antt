-- What is answered of a workload, on a host of its own that meets no fault but of memory.
use Rattle.std.specs.Prelude.{◌≡◌, Bool, true, false, List, Result, Ok, Err}
use Rattle.net_model.specs.declared.Link.{Link}
use Rattle.document_model.specs.declared.Doc.{Doc}
use Rattle.merge_model.specs.declared.fault.MergeFault.TheVariants as me
use Rattle.engine_model.specs.declared.ApplyFault.TheVariants as ap
use Rattle.scenario_model.specs.Asking.{first_net, both_merged}
use Rattle.scenario_model.specs.declared.work.Summary.{Summary}
use Rattle.scenario_model.specs.declared.work.WorkFault.{WorkFault}
use Rattle.scenario_model.specs.declared.work.WorkFault.TheVariants.{Apply, Merge}
use Rattle.order_reading.specs.declared.order.Order.{Order}
use Rattle.order_reading.specs.declared.order.Order.TheVariants.{Generate}
use Rattle.top_model.specs.Said.{IsSummary}
use Rattle.top_model.specs.declared.report.Cause.{Cause}
use Rattle.top_model.specs.declared.report.Cause.TheVariants.{MergeRefused, OutOfMemory}

-- a merge that is refused, or out of memory
abbrev pub work_cause : WorkFault → Cause
work_cause (Apply (ap.MergeRefused refused)) = MergeRefused refused
work_cause (Merge (me.Refused refused)) = MergeRefused refused
work_cause fault = OutOfMemory

-- the counts of the workload, or why there are none
abbrev pub Works : List Link → Doc → Doc → Result Summary Cause → Type 0
Works devices first second (Ok summary) = IsSummary devices first second summary
Works devices first second (Err (MergeRefused refused)) = both_merged (first_net devices) first second ≡ Err refused
Works devices first second (Err OutOfMemory) = Unit {0}
Works devices first second (Err cause) = ⊥

-- an order that is carried out on a host of its own
abbrev pub works_apart : Order → Bool
works_apart (Generate devices first second) = true
works_apart order = false
