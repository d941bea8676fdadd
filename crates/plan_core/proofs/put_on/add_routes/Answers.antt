use Rattle.std.proofs.Common.{arith, rules, ◌≡◌, ◌<◌, ◌≤◌, List, length, get_or, sym, ap, subst, ◌∙◌}
use Rattle.net_model.specs.Lists.{NetData}
use Rattle.net_model.specs.declared.route.Route.{Route}
use Rattle.net_model.specs.Edits.{same_route}
use Rattle.link_planner.specs.Drafts.{DraftData}
use Rattle.plan_core.specs.Parts.{HasRoute}
use Rattle.plan_core.proofs.Exact.{one_route, route_itself}
use Rattle.plan_core.proofs.Places.{item_there}
use Rattle.plan_core.proofs.Stepping.{OfFirst, no_call_on, on_safe, next_on, all_on}
use Rattle.plan_core.proofs.put_on.add_routes.Goals as goal

pub loop-route-init : goal.loop-route-init
loop-route-init c = no_call_on (OfFirst same_route (λ (e : DraftData). HasRoute e.net) (λ (e : DraftData). e.target.routes) 0) c.args.draft.now c.requires.within (λ y among. absurd cc)

pub add_some-requires : goal.add_some-requires
add_some-requires c = on_safe (λ e. (λ (e : DraftData). HasRoute e.net) e c.route-item.result) c.loop-route.draft c.route_on-call.result c.route_on-call.ensures

pub loop-route-preserved : goal.loop-route-preserved
loop-route-preserved c =
    let list : c.deref-route-items.result.now ≡ c.args.draft.now.target.routes = search rules in
    let before : c.loop-route.route-index < length c.deref-route-items.result.now = omega arith in
    rw c.in_ok-add_some.ensures (next_on same_route one_route route_itself (λ (e : DraftData). HasRoute e.net) (λ (e : DraftData). e.target.routes) (λ m a b advances. ap (λ (n : NetData). n.routes) advances.target) (λ a b advances part y h. part.routes y h) c.args.draft.now c.loop-route.draft c.loop-route.route-index c.route-item.result (subst (λ (xs : List Route). c.loop-route.route-index < length xs) list before) (c.route-item.is ∙ ap (λ (xs : List Route). get_or xs c.loop-route.route-index c.route-item.result) list) c.loop-route.invariant c.route_on-call.result c.route_on-call.ensures)

pub returns : goal.returns
returns c =
    let list : c.deref-route-items.result.now ≡ c.args.draft.now.target.routes = search rules in
    all_on same_route one_route route_itself (λ (e : DraftData). HasRoute e.net) (λ (e : DraftData). e.target.routes) (λ m a b advances. ap (λ (n : NetData). n.routes) advances.target) c.args.draft.now c.loop-route.draft c.loop-route.route-index (subst (λ (xs : List Route). length xs ≤ c.loop-route.route-index) list c.loop-route-test.false) (subst (λ (xs : List Route). c.loop-route.route-index ≤ length xs) list (omega arith)) c.loop-route.invariant

pub route_on-call-requires-clause-there : goal.route_on-call-requires-clause-there
route_on-call-requires-clause-there c =
    let list : c.deref-route-items.result.now ≡ c.args.draft.now.target.routes = search rules in
    let before : c.loop-route.route-index < length c.deref-route-items.result.now = omega arith in
    subst (λ t. HasRoute t c.route-item.result) (sym c.loop-route.invariant.advances.target) (item_there same_route route_itself c.args.draft.now.target.routes c.loop-route.route-index c.route-item.result (subst (λ (xs : List Route). c.loop-route.route-index < length xs) list before) (c.route-item.is ∙ ap (λ (xs : List Route). get_or xs c.loop-route.route-index c.route-item.result) list))

pub route_on-call-requires-clause-links : goal.route_on-call-requires-clause-links
route_on-call-requires-clause-links c =
    let list : c.deref-route-items.result.now ≡ c.args.draft.now.target.routes = search rules in
    let before : c.loop-route.route-index < length c.deref-route-items.result.now = omega arith in
    c.loop-route.invariant.links c.requires.links
