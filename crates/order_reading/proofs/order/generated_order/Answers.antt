use Rattle.std.proofs.lemmas.Result.{err_from_is_err_and}
use Rattle.top_model.specs.Orders.{generated}
use Rattle.order_reading.specs.AsDefined.{as_defined}
use Rattle.order_reading.specs.Workload.{order_for}
use Rattle.order_reading.proofs.Readings.{refusal_as}
use Rattle.order_reading.proofs.order.generated_order.Goals as goal

pub returns-in_err-workload-clause-order : goal.returns-in_err-workload-clause-order
returns-in_err-workload-clause-order c =
    let p = err_from_is_err_and c.from_residual.result c.from_residual.ensures.1 in
    rw (p.1, p.2) (refusal_as order_for as_defined (generated c.args.count c.args.seed) c.in_err-workload.field-0.0 c.in_err-workload.ensures.read)
