use Rattle.std.proofs.Common.{rules, ap, sym, ◌∙◌, Some, None, [], arith}
use Rattle.std.proofs.lemmas.Fn.{always_returns_same}
use Rattle.std.proofs.lemmas.List.Sorted.{searchable_from_sorted}
use Rattle.net_model.specs.Order.{route_cmp}
use Rattle.net_model.specs.Valid.{same_key}
use Rattle.net_model.specs.declared.route.Route.{Route}
use Rattle.net_search.specs.Search.{key_cmp}
use Rattle.net_model.proofs.lemmas.Orders.{route_cmp_total}
use Rattle.net_model.proofs.lemmas.Rises.{sorted-rises}
use Rattle.net_model.proofs.lemmas.Search.{found_first, none_found}
use Rattle.net_model.proofs.lemmas.Ties.{keys_tie}
use Rattle.net_search.proofs.route.find_in.Goals as goal

pub returns-in-Ok : goal.returns-in-Ok
returns-in-Ok c =
    let k : Route = record { dest = c.args.dest; table = c.args.table; metric = c.args.metric; gateway = None; dev = [] } in
    let at = c.in-Ok.ensures.position (key_cmp c.args.dest c.args.table c.args.metric) (always_returns_same _ _ _ (λ a r after called. search rules)) in
    ap Some c.index-routes-i.is ∙ found_first same_key route_cmp route_cmp_total keys_tie k c.args.routes.now c.in-Ok.i c.index-routes-i.result c.requires.differ (omega (arith, c.in-Ok.ensures.bound)) (at c.index-routes-i.result)

pub returns-in-Err : goal.returns-in-Err
returns-in-Err c =
    let k : Route = record { dest = c.args.dest; table = c.args.table; metric = c.args.metric; gateway = None; dev = [] } in
    let at = c.in-Err.ensures.position (key_cmp c.args.dest c.args.table c.args.metric) (always_returns_same _ _ _ (λ a r after called. search rules)) in
    sym (none_found same_key route_cmp route_cmp_total keys_tie k c.args.routes.now c.in-Err.field-0 (at (searchable_from_sorted route_cmp_total (λ (r : Route). r) c.args.routes.now k (sorted-rises route_cmp route_cmp_total c.args.routes.now c.requires.in_order))))
