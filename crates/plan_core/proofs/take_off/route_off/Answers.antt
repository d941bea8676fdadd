use Rattle.std.proofs.Common.{rules, ◌≡◌, false}
use Rattle.plan_model.specs.Undisturbed.{has_route}
use Rattle.plan_core.specs.Parts.{HasRoute}
use Rattle.plan_core.proofs.Dropping.{route_taking}
use Rattle.plan_core.proofs.take_off.route_off.Goals as goal

pub returns-then-not-has_route : goal.returns-then-not-has_route
returns-then-not-has_route c =
    let has : HasRoute c.args.draft.now.net c.args.route.now = search rules in
    let off : has_route c.args.route.now c.args.draft.now.target.routes ≡ false = search rules in
    route_taking c.args.draft.now c.laws.ensures c.args.route.now has off
