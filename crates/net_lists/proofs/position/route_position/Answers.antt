use Rattle.std.proofs.Common.{rules, arith}
use Rattle.std.proofs.lemmas.Fn.{always_returns_same}
use Rattle.std.proofs.lemmas.List.Sorted.{searchable_from_sorted}
use Rattle.net_model.specs.Order.{route_cmp}
use Rattle.net_model.specs.Valid.{same_key}
use Rattle.net_model.specs.declared.route.Route.{Route}
use Rattle.net_model.proofs.lemmas.Rises.{sorted-rises, apart-rises}
use Rattle.net_model.proofs.lemmas.Orders.{route_cmp_total}
use Rattle.net_model.proofs.lemmas.Ties.{keys_tie}
use Rattle.net_model.proofs.lemmas.Places.{stands, gap}
use Rattle.net_lists.proofs.position.route_position.Goals as goal

pub returns-in-Ok : goal.returns-in-Ok
returns-in-Ok c =
    let k : Route = c.args.route.now in
    let at = c.in-Ok.ensures.position (λ (r : Route). route_cmp r k) (always_returns_same _ _ _ (λ a r after called. search rules)) in
    stands same_key route_cmp route_cmp_total keys_tie k c.args.routes.now (apart-rises same_key route_cmp keys_tie c.args.routes.now c.requires) c.in-Ok.i (omega (arith, c.in-Ok.ensures.bound)) at

pub returns-in-Err : goal.returns-in-Err
returns-in-Err c =
    let k : Route = c.args.route.now in
    let at = c.in-Err.ensures.position (λ (r : Route). route_cmp r k) (always_returns_same _ _ _ (λ a r after called. search rules)) in
    gap same_key route_cmp route_cmp_total keys_tie k route_cmp (λ y h. h) (λ y h. h) c.args.routes.now c.in-Err.i c.in-Err.ensures.bound (at (searchable_from_sorted route_cmp_total (λ (r : Route). r) c.args.routes.now k (sorted-rises route_cmp route_cmp_total c.args.routes.now c.requires)))
