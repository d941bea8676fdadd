use Rattle.doc_tree.specs.Shape.{shape}
use Rattle.policy_lang.specs.Held.{data_of}
use Rattle.policy_document.proofs.Readings.{value_read, value_not}
use Rattle.policy_document.proofs.value_on.Goals as goal

pub returns-in-Ok-clause-value : goal.returns-in-Ok-clause-value
returns-in-Ok-clause-value c = value_read (data_of c.args.policy.now) c.args.net.now (shape c.in_ok-running.running) c.in-Ok.tree c.in_ok-running.ensures.tree c.in-Ok.ensures.value

pub returns-clause-value : goal.returns-clause-value
returns-clause-value c = rw c.policy_cause.ensures (value_not (data_of c.args.policy.now) c.args.net.now (shape c.in_ok-running.running) c.in-Err.fault c.in_ok-running.ensures.tree c.in-Err.ensures.value)
