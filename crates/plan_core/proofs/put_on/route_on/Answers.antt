use Rattle.std.proofs.Common.{rules, ◌≡◌, false}
use Rattle.plan_model.specs.Undisturbed.{has_route}
use Rattle.plan_core.proofs.Adding.{route_putting}
use Rattle.plan_core.proofs.put_on.route_on.Goals as goal

pub returns-else-has_route : goal.returns-else-has_route
returns-else-has_route c =
    let off : has_route c.args.route.now c.args.draft.now.net.routes ≡ false = search rules in
    route_putting c.args.draft.now c.laws.ensures c.requires.within c.requires.links c.args.route.now c.requires.there off
