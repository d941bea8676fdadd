use Rattle.std.proofs.Common.{ap}
use Rattle.net_model.specs.Rule.{RuleParts}
use Rattle.route_merge.proofs.Indexed.{one_more}
use Rattle.route_merge.proofs.taken.Taken.push.Goals as goal

pub invariant_of-result : goal.invariant_of-result
invariant_of-result c = rw c.in_ok-push.ensures.items (one_more c.self.inside.rules.items c.self.inside.equal c.self.inside.bodies c.self.inside.numbers c.self.inside.next c.args.rule c.without_number.result c.rule.inside.priority c.insert.new.self c.insert-2.new.self c.insert-3.new.self
    c.without_number.ensures (ap (λ (r : RuleParts). r.priority) c.rule.view_is) c.self.invariant c.in_ok-insert.ensures.updates c.in_ok-insert-2.ensures.updates c.in_ok-insert-3.ensures.updates)
