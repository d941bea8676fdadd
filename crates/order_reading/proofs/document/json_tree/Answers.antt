use Rattle.order_reading.proofs.Documents.{json_read, json_refused}
use Rattle.order_reading.proofs.document.json_tree.Goals as goal

pub returns-in-Ok-clause-read : goal.returns-in-Ok-clause-read
returns-in-Ok-clause-read c = json_read c.args.bytes.now c.in-Ok.tree c.in-Ok.ensures.tree

pub returns-in-Err-clause-read : goal.returns-in-Err-clause-read
returns-in-Err-clause-read c = rw c.json_cause.ensures (json_refused c.args.bytes.now c.in-Err.fault c.in-Err.ensures.tree)
