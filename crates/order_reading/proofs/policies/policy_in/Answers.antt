use Rattle.doc_tree.specs.Shape.{shape}
use Rattle.policy_model.specs.Policies.{policy_of_tree}
use Rattle.order_reading.proofs.PolicyReadings.{policy_read, policy_refused}
use Rattle.order_reading.proofs.policies.policy_in.Goals as goal

pub returns-in-Ok : goal.returns-in-Ok
returns-in-Ok c = policy_read (policy_of_tree (shape c.args.tree.now)) c.in-Ok.policy c.in-Ok.ensures

pub returns-in-Err : goal.returns-in-Err
returns-in-Err c = rw c.policy_cause.ensures (policy_refused (policy_of_tree (shape c.args.tree.now)) c.in-Err.fault c.in-Err.ensures)
