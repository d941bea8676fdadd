use Rattle.std.proofs.Common.{sym}
use Rattle.net_model.specs.Valid.{same_rule}
use Rattle.net_model.proofs.lemmas.Places.{any_at}
use Rattle.plan_core.proofs.has.has_rule.Goals as goal

pub returns-in-At : goal.returns-in-At
returns-in-At c = sym (any_at (same_rule c.args.rule.now) c.args.net.now.rules c.in-At.field-0 c.args.rule.now c.in-At.ensures.inside (c.in-At.ensures.same c.args.rule.now))
