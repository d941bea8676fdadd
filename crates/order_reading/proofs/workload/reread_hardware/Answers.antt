use Rattle.std.proofs.lemmas.Result.{err_from_is_err_and}
use Rattle.doc_tree.specs.Shape.{shape}
use Rattle.link_schema.specs.Hardware.{hardware}
use Rattle.top_model.specs.Orders.{reread, hardware_of_tree}
use Rattle.order_reading.proofs.Documents.{said, unsaid}
use Rattle.order_reading.proofs.Workloads.{again, unread}
use Rattle.order_reading.proofs.workload.reread_hardware.Goals as goal

pub returns-in_err-again : goal.returns-in_err-again
returns-in_err-again c =
    let p = err_from_is_err_and c.from_residual.result c.from_residual.ensures.1 in
    rw (p.1, p.2) (unread hardware_of_tree (shape c.args.tree.now) c.in_err-again.field-0.0 c.in_err-again.ensures)

pub returns-in-Ok : goal.returns-in-Ok
returns-in-Ok c =
    said (λ links notes. links) (hardware (shape c.in_ok-again.again)) c.in-Ok.links (reread hardware_of_tree (shape c.args.tree.now))
    (again hardware_of_tree (shape c.args.tree.now) (shape c.in_ok-again.again) c.in_ok-again.ensures) c.in-Ok.ensures.read

pub returns : goal.returns
returns c =
    rw c.schema_cause.ensures
    (unsaid (λ links notes. links) (hardware (shape c.in_ok-again.again)) (reread hardware_of_tree (shape c.args.tree.now)) c.in-Err.fault
    (again hardware_of_tree (shape c.args.tree.now) (shape c.in_ok-again.again) c.in_ok-again.ensures) c.in-Err.ensures.read)
