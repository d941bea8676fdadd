use Rattle.order_reading.proofs.Documents.{yaml_read, yaml_refused}
use Rattle.order_reading.proofs.document.yaml_tree.Goals as goal

pub returns-in-Ok-clause-read : goal.returns-in-Ok-clause-read
returns-in-Ok-clause-read c = yaml_read c.args.bytes.now c.in-Ok.tree c.in-Ok.ensures.exact

pub returns-in-Err-clause-read : goal.returns-in-Err-clause-read
returns-in-Err-clause-read c = rw c.yaml_cause.ensures (yaml_refused c.args.bytes.now c.in-Err.fault c.in-Err.ensures.exact)
