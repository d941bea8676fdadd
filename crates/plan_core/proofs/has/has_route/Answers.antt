use Rattle.std.proofs.Common.{◌∙◌, sym, rules}
use Rattle.net_model.specs.Valid.{same_key}
use Rattle.net_model.specs.Edits.{same_route}
use Rattle.plan_core.proofs.Places.{none_less, as_there}
use Rattle.plan_core.proofs.Exact.{route_key}
use Rattle.plan_core.proofs.has.has_route.Goals as goal

pub returns-in-At : goal.returns-in-At
returns-in-At c = c.is_same_route.ensures ∙ as_there same_key same_route c.args.route.now (route_key c.args.route.now) c.args.net.now.routes c.in-At.i c.in-At.ensures c.index.result.now (λ d. search rules)

pub returns-in-Gap : goal.returns-in-Gap
returns-in-Gap c = sym (none_less (same_route c.args.route.now) (same_key c.args.route.now) (route_key c.args.route.now) c.args.net.now.routes c.in-Gap.ensures.none)
