use Rattle.std.proofs.Common.{◌∙◌, sym, subst}
use Rattle.rollout_model.specs.declared.node.Action.{Action}
use Rattle.rollout_model.specs.declared.node.Action.TheVariants as Action_
use Rattle.rollout_core.specs.Did.{Did, change, events_of}
use Rattle.rollout_core.specs.declared.told.Told.{Told}
use Rattle.rollout_core.proofs.step.carry_out.Goals as goal

pub returns-in-Rollback-clause-did : goal.returns-in-Rollback-clause-did
returns-in-Rollback-clause-did g c =
    let a = change c.args.doc.now c.args.timeout c.args.now in
    let old = c.args.hosts.now.items in
    let new = c.take_back-answer.new.hosts.items in
    subst (λ (x : Action). Did g.H.Host a x old new (events_of c.tell-in-Rollback.result)) (sym (sym c.next.ensures ∙ c.in-Rollback.is))
    (subst (λ (t : Told). Did g.H.Host a (Action_.Rollback c.in-Rollback.i) old new (events_of t)) (sym c.tell-in-Rollback.ensures.told) (c.take_back-answer.ensures a))
