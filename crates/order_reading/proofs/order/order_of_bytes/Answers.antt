use Rattle.std.proofs.Common.{refl, Ok}
use Rattle.std.proofs.lemmas.Result.{err_from_is_err_and}
use Rattle.doc_tree.specs.Shape.{shape}
use Rattle.policy_lang.specs.Held.{data_of}
use Rattle.top_model.specs.Orders.{tree_of, policy, calls_of, hardware_list, policy_or_document, evaluating, simulating, making, planning, planning_policy, applying, applying_policy}
use Rattle.order_reading.specs.AsDefined.{as_defined}
use Rattle.order_reading.specs.Reading.{itself}
use Rattle.order_reading.proofs.PolicyReadings.{answered_next, refused_before}
use Rattle.order_reading.proofs.order.order_of_bytes.Goals as goal

pub returns-in_err-tree-in-Plan-clause-order : goal.returns-in_err-tree-in-Plan-clause-order
returns-in_err-tree-in-Plan-clause-order c =
    let p = err_from_is_err_and c.from_residual.result c.from_residual.ensures.1 in
    rw (c.in-Plan.is, p.1, p.2)
    (refused_before shape as_defined (tree_of c.args.bytes.now) (policy_or_document (λ p. planning_policy p c.in-Plan.batch) (λ doc. planning doc c.in-Plan.batch)) c.in_err-tree-in-Plan.field-0.0 c.in_err-tree-in-Plan.ensures.read)

pub returns-in_ok-tree-in-Plan-clause-order : goal.returns-in_ok-tree-in-Plan-clause-order
returns-in_ok-tree-in-Plan-clause-order c =
    rw c.in-Plan.is
    (answered_next shape as_defined (tree_of c.args.bytes.now) (policy_or_document (λ p. planning_policy p c.in-Plan.batch) (λ doc. planning doc c.in-Plan.batch)) c.in_ok-tree-in-Plan.tree c.plan_in.result c.in_ok-tree-in-Plan.ensures.read
    c.plan_in.ensures.order)

pub returns-in_err-policy-in-Evaluate-clause-order : goal.returns-in_err-policy-in-Evaluate-clause-order
returns-in_err-policy-in-Evaluate-clause-order c =
    let p = err_from_is_err_and c.from_residual-in_err-policy-in-Evaluate.result c.from_residual-in_err-policy-in-Evaluate.ensures.1 in
    rw (c.in-Evaluate.is, p.1, p.2) (refused_before data_of as_defined (policy c.args.bytes.now) (λ p. Ok (evaluating p)) c.in_err-policy-in-Evaluate.field-0.0 c.in_err-policy-in-Evaluate.ensures)

pub returns-in_ok-policy-in-Evaluate-clause-order : goal.returns-in_ok-policy-in-Evaluate-clause-order
returns-in_ok-policy-in-Evaluate-clause-order c = rw (c.in-Evaluate.is, c.in_ok-policy-in-Evaluate.ensures) refl

pub returns-in_err-calls-in-Simulate-clause-order : goal.returns-in_err-calls-in-Simulate-clause-order
returns-in_err-calls-in-Simulate-clause-order c =
    let p = err_from_is_err_and c.from_residual-in_err-calls-in-Simulate.result c.from_residual-in_err-calls-in-Simulate.ensures.1 in
    rw (c.in-Simulate.is, p.1, p.2) (refused_before itself as_defined (calls_of c.args.bytes.now) (λ calls. Ok (simulating calls)) c.in_err-calls-in-Simulate.field-0.0 c.in_err-calls-in-Simulate.ensures)

pub returns-in_ok-calls-in-Simulate-clause-order : goal.returns-in_ok-calls-in-Simulate-clause-order
returns-in_ok-calls-in-Simulate-clause-order c = rw (c.in-Simulate.is, c.in_ok-calls-in-Simulate.ensures) refl

pub returns-in_err-tree-in-Apply-clause-order : goal.returns-in_err-tree-in-Apply-clause-order
returns-in_err-tree-in-Apply-clause-order c =
    let p = err_from_is_err_and c.from_residual-in_err-tree-in-Apply.result c.from_residual-in_err-tree-in-Apply.ensures.1 in
    rw (c.in-Apply.is, p.1, p.2)
    (refused_before shape as_defined (tree_of c.args.bytes.now) (policy_or_document (λ p. applying_policy p c.in-Apply.opts) (λ doc. applying doc c.in-Apply.opts)) c.in_err-tree-in-Apply.field-0.0 c.in_err-tree-in-Apply.ensures.read)

pub returns-in_ok-tree-in-Apply-clause-order : goal.returns-in_ok-tree-in-Apply-clause-order
returns-in_ok-tree-in-Apply-clause-order c =
    rw c.in-Apply.is
    (answered_next shape as_defined (tree_of c.args.bytes.now) (policy_or_document (λ p. applying_policy p c.in-Apply.opts) (λ doc. applying doc c.in-Apply.opts)) c.in_ok-tree-in-Apply.tree c.apply_in.result c.in_ok-tree-in-Apply.ensures.read
    c.apply_in.ensures.order)

pub returns-in_err-links-in-Init-clause-order : goal.returns-in_err-links-in-Init-clause-order
returns-in_err-links-in-Init-clause-order c =
    let p = err_from_is_err_and c.from_residual-in_err-links-in-Init.result c.from_residual-in_err-links-in-Init.ensures.1 in
    rw (c.in-Init.is, p.1, p.2) (refused_before itself as_defined (hardware_list c.args.bytes.now) (λ links. Ok (making links)) c.in_err-links-in-Init.field-0.0 c.in_err-links-in-Init.ensures)

pub returns-in_ok-links-in-Init-clause-order : goal.returns-in_ok-links-in-Init-clause-order
returns-in_ok-links-in-Init-clause-order c = rw (c.in-Init.is, c.in_ok-links-in-Init.ensures) refl
