use Rattle.std.proofs.Common.{rules}
use Rattle.std.proofs.lemmas.List.Sorted.{answers_always, searchable_from_sorted}
use Rattle.net_model.specs.Order.{route_cmp}
use Rattle.net_model.specs.declared.route.Route.{Route}
use Rattle.net_model.proofs.lemmas.Rises.{sorted-rises}
use Rattle.net_model.proofs.lemmas.Orders.{route_cmp_total}
use Rattle.kernel_step.proofs.places.search_routes.Goals as goal

pub returns-in-Ok : goal.returns-in-Ok
returns-in-Ok c =
    let at = c.in-Ok.ensures.position (λ (r : Route). (r.dest, r.table, r.metric)) (answers_always _ _ _ (λ f a r g k. search rules)) in
    (c.in-Ok.ensures.bound, λ d. at d)

pub returns-in-Err : goal.returns-in-Err
returns-in-Err c =
    let at = c.in-Err.ensures.position (λ (r : Route). (r.dest, r.table, r.metric)) (answers_always _ _ _ (λ f a r g k. search rules)) in
    (c.in-Err.ensures.bound, at (searchable_from_sorted route_cmp_total (λ (r : Route). r) c.args.routes.now c.args.route.now (sorted-rises route_cmp route_cmp_total c.args.routes.now c.requires)))
