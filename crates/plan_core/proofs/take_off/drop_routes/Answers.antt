use Rattle.std.proofs.Common.{arith, rules, ◌≡◌, ◌+◌, ◌-◌, ◌<◌, length, get_or, sym, ap, subst}
use Rattle.net_model.specs.Lists.{NetData}
use Rattle.net_model.specs.Edits.{same_route}
use Rattle.link_planner.specs.Drafts.{DraftData}
use Rattle.plan_core.specs.Parts.{HasRoute, RouteFits}
use Rattle.plan_core.specs.Steps.{TakesOff}
use Rattle.plan_core.proofs.Exact.{one_route, route_itself}
use Rattle.plan_core.proofs.Stepping.{OfLast, before_off}
use Rattle.plan_core.proofs.take_off.drop_routes.Goals as goal

pub loop-at-preserved : goal.loop-at-preserved
loop-at-preserved c =
    let up : c.loop-at.at ≡ (c.loop-at.at - 1) + 1 = omega arith in
    let count : c.len-at.result ≡ length c.args.draft.now.start.routes = search rules in
    let within : c.loop-at.at - 1 < length c.args.draft.now.start.routes = omega (arith, count) in
    let is : c.index.result.now ≡ get_or c.args.draft.now.start.routes (c.loop-at.at - 1) c.index.result.now = search rules in
    rw c.in_ok-add_some.ensures (before_off same_route one_route route_itself (λ (e : DraftData). RouteFits e.target e.net) (λ (e : DraftData). e.start.routes) (λ m a b advances. ap (λ (n : NetData). n.routes) advances.start) (λ a b advances part y h has. subst (λ t. HasRoute t y) (sym advances.target) (h (part.routes y has)))
    c.args.draft.now c.loop-at.draft (c.loop-at.at - 1) c.index.result.now within is
    (subst (λ k. TakesOff (length c.args.draft.now.start.routes - k) (OfLast same_route (λ (e : DraftData). RouteFits e.target e.net) (λ (e : DraftData). e.start.routes) k) c.args.draft.now c.loop-at.draft) up c.loop-at.invariant) c.route_off-call.result c.route_off-call.ensures)
