use Rattle.std.proofs.lemmas.Result.{err_from_is_err_and}
use Rattle.doc_tree.specs.Shape.{shape}
use Rattle.order_reading.proofs.PolicyReadings.{policy_bytes, no_policy_bytes}
use Rattle.order_reading.proofs.policies.policy_of_bytes.Goals as goal

pub returns-in_err-tree : goal.returns-in_err-tree
returns-in_err-tree c =
    let p = err_from_is_err_and c.from_residual.result c.from_residual.ensures.1 in
    rw (p.1, p.2) (no_policy_bytes c.args.bytes.now c.in_err-tree.field-0.0 c.in_err-tree.ensures.read)

pub returns : goal.returns
returns c = policy_bytes c.args.bytes.now (shape c.in_ok-tree.tree) c.policy_in.result c.in_ok-tree.ensures.read c.policy_in.ensures
