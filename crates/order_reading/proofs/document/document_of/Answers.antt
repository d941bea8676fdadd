use Rattle.std.proofs.Common.{refl}
use Rattle.doc_tree.specs.Shape.{shape}
use Rattle.document_schema.specs.Document.{document as parts_of, doc as with_notes}
use Rattle.top_model.specs.Orders.{with_fault, document_of_tree}
use Rattle.top_model.specs.declared.DocFault.TheVariants.{Schema}
use Rattle.order_reading.proofs.Documents.{said, unsaid}
use Rattle.order_reading.proofs.document.document_of.Goals as goal

pub returns-in-Ok-clause-read : goal.returns-in-Ok-clause-read
returns-in-Ok-clause-read c = said with_notes (parts_of (shape c.args.tree.now)) c.in-Ok.doc (with_fault Schema (document_of_tree (shape c.args.tree.now))) refl c.in-Ok.ensures.read

pub returns-in-Err-clause-read : goal.returns-in-Err-clause-read
returns-in-Err-clause-read c = rw c.schema_cause.ensures (unsaid with_notes (parts_of (shape c.args.tree.now)) (with_fault Schema (document_of_tree (shape c.args.tree.now))) c.in-Err.fault refl c.in-Err.ensures.read)
