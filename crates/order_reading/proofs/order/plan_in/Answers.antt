use Rattle.std.proofs.Common.{◌∙◌, refl, sym}
use Rattle.std.proofs.lemmas.Result.{err_from_is_err_and}
use Rattle.doc_tree.specs.Shape.{shape}
use Rattle.top_model.specs.Orders.{planning, planning_policy}
use Rattle.order_reading.specs.AsDefined.{as_defined}
use Rattle.order_reading.specs.declared.order.Order.TheVariants.{Plan, PlanPolicy}
use Rattle.order_reading.proofs.PolicyReadings.{a_policy, no_policy, a_document, no_document}
use Rattle.order_reading.proofs.order.plan_in.Goals as goal

pub returns-in_err-policy-clause-order : goal.returns-in_err-policy-clause-order
returns-in_err-policy-clause-order c =
    let p = err_from_is_err_and c.from_residual.result c.from_residual.ensures.1 in
    rw (p.1, p.2) (no_policy as_defined (λ p. planning_policy p c.args.batch) (λ doc. planning doc c.args.batch) (shape c.args.tree.now) c.in_err-policy.field-0.0 (sym c.is_policy.ensures ∙ c.if-is_policy.true) c.in_err-policy.ensures)

pub returns-then-is_policy-clause-order : goal.returns-then-is_policy-clause-order
returns-then-is_policy-clause-order c =
    a_policy as_defined (λ p. planning_policy p c.args.batch) (λ doc. planning doc c.args.batch) (shape c.args.tree.now) c.in_ok-policy.policy (PlanPolicy c.in_ok-policy.policy c.args.batch) (sym c.is_policy.ensures ∙ c.if-is_policy.true) c.in_ok-policy.ensures refl

pub returns-in_err-doc-clause-order : goal.returns-in_err-doc-clause-order
returns-in_err-doc-clause-order c =
    let p = err_from_is_err_and c.from_residual-in_err-doc.result c.from_residual-in_err-doc.ensures.1 in
    rw (p.1, p.2) (no_document as_defined (λ p. planning_policy p c.args.batch) (λ doc. planning doc c.args.batch) (shape c.args.tree.now) c.in_err-doc.field-0.0 (sym c.is_policy.ensures ∙ c.if-is_policy.false) c.in_err-doc.ensures.read)

pub returns-clause-order : goal.returns-clause-order
returns-clause-order c =
    a_document as_defined (λ p. planning_policy p c.args.batch) (λ doc. planning doc c.args.batch) (shape c.args.tree.now) c.in_ok-doc.doc (Plan c.in_ok-doc.doc c.args.batch) (sym c.is_policy.ensures ∙ c.if-is_policy.false) c.in_ok-doc.ensures.read refl
