use Rattle.std.proofs.lemmas.Result.{err_from_is_err_and}
use Rattle.doc_tree.specs.Shape.{shape}
use Rattle.document_schema.specs.Document.{document as parts_of, doc as with_notes}
use Rattle.top_model.specs.Orders.{reread, document_of_tree}
use Rattle.order_reading.proofs.Documents.{said, unsaid}
use Rattle.order_reading.proofs.Workloads.{again, unread}
use Rattle.order_reading.proofs.workload.reread_document.Goals as goal

pub returns-in_err-again-clause-read : goal.returns-in_err-again-clause-read
returns-in_err-again-clause-read c =
    let p = err_from_is_err_and c.from_residual.result c.from_residual.ensures.1 in
    rw (p.1, p.2) (unread document_of_tree (shape c.args.tree.now) c.in_err-again.field-0.0 c.in_err-again.ensures)

pub returns-in-Ok-clause-read : goal.returns-in-Ok-clause-read
returns-in-Ok-clause-read c =
    said with_notes (parts_of (shape c.in_ok-again.again)) c.in-Ok.doc (reread document_of_tree (shape c.args.tree.now))
    (again document_of_tree (shape c.args.tree.now) (shape c.in_ok-again.again) c.in_ok-again.ensures) c.in-Ok.ensures.read

pub returns-clause-read : goal.returns-clause-read
returns-clause-read c =
    rw c.schema_cause.ensures
    (unsaid with_notes (parts_of (shape c.in_ok-again.again)) (reread document_of_tree (shape c.args.tree.now)) c.in-Err.fault
    (again document_of_tree (shape c.args.tree.now) (shape c.in_ok-again.again) c.in_ok-again.ensures) c.in-Err.ensures.read)
