use Rattle.std.proofs.Common.{◌∙◌, sym, ap, List, Result}
use Rattle.std.specs.Prelude.{Ok}
use Rattle.net_model.specs.declared.Call.{Call}
use Rattle.top_model.specs.declared.Cause.{Cause}
use Rattle.order_reading.proofs.Batches.{calls_read, calls_refused}
use Rattle.order_reading.proofs.calls.calls_in.Goals as goal

abbrev read : List Call → Result (List Call) Cause
read calls = Ok calls

pub returns-in-Ok : goal.returns-in-Ok
returns-in-Ok c = calls_read c.args.bytes.now c.in-Ok.calls.items c.in-Ok.ensures.value ∙ ap read (sym c.of.ensures)

pub returns-in-Err : goal.returns-in-Err
returns-in-Err c = rw c.batch_cause.ensures (calls_refused c.args.bytes.now c.in-Err.fault c.in-Err.ensures.value)
