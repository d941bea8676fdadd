use Rattle.std.proofs.lemmas.Result.{err_from_is_err_and}
use Rattle.doc_tree.specs.Shape.{shape}
use Rattle.order_reading.proofs.Documents.{document_of, no_document}
use Rattle.order_reading.proofs.document.document_in.Goals as goal

pub returns-in_err-tree-clause-read : goal.returns-in_err-tree-clause-read
returns-in_err-tree-clause-read c =
    let p = err_from_is_err_and c.from_residual.result c.from_residual.ensures.1 in
    rw (p.1, p.2) (no_document c.args.bytes.now c.in_err-tree.field-0.0 c.in_err-tree.ensures.read)

pub returns-clause-read : goal.returns-clause-read
returns-clause-read c = rw (document_of c.args.bytes.now (shape c.in_ok-tree.tree) c.in_ok-tree.ensures.read) c.document_of.ensures.read
