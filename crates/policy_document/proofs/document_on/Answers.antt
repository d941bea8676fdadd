use Rattle.std.proofs.lemmas.Result.{err_from_is_err_and}
use Rattle.doc_tree.specs.Shape.{shape}
use Rattle.policy_lang.specs.Held.{data_of}
use Rattle.policy_document.proofs.Readings.{document_read, document_not}
use Rattle.policy_document.proofs.document_on.Goals as goal

pub returns-in_err-tree-clause-read : goal.returns-in_err-tree-clause-read
returns-in_err-tree-clause-read c =
    let p = err_from_is_err_and c.from_residual.result c.from_residual.ensures.1 in
    rw (p.1, p.2) (document_not (data_of c.args.policy.now) c.args.net.now c.in_err-tree.field-0.0 c.in_err-tree.ensures.value)

pub returns-clause-read : goal.returns-clause-read
returns-clause-read c = document_read (data_of c.args.policy.now) c.args.net.now (shape c.in_ok-tree.tree) c.document_of.result c.in_ok-tree.ensures.value c.document_of.ensures.read
