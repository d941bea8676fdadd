use Rattle.std.proofs.lemmas.Result.{err_from_is_err_and}
use Rattle.doc_tree.specs.Shape.{shape}
use Rattle.link_schema.specs.Hardware.{hardware}
use Rattle.top_model.specs.Orders.{hardware_list}
use Rattle.order_reading.proofs.Documents.{hardware_of, no_hardware, said, unsaid}
use Rattle.order_reading.proofs.document.hardware_in.Goals as goal

pub returns-in_err-tree : goal.returns-in_err-tree
returns-in_err-tree c =
    let p = err_from_is_err_and c.from_residual.result c.from_residual.ensures.1 in
    rw (p.1, p.2) (no_hardware c.args.bytes.now c.in_err-tree.field-0.0 c.in_err-tree.ensures.read)

pub returns-in-Ok : goal.returns-in-Ok
returns-in-Ok c =
    said (λ links notes. links) (hardware (shape c.in_ok-tree.tree)) c.in-Ok.links (hardware_list c.args.bytes.now) (hardware_of c.args.bytes.now (shape c.in_ok-tree.tree) c.in_ok-tree.ensures.read) c.in-Ok.ensures.read

pub returns : goal.returns
returns c =
    rw c.schema_cause.ensures
    (unsaid (λ links notes. links) (hardware (shape c.in_ok-tree.tree)) (hardware_list c.args.bytes.now) c.in-Err.fault (hardware_of c.args.bytes.now (shape c.in_ok-tree.tree) c.in_ok-tree.ensures.read) c.in-Err.ensures.read)
