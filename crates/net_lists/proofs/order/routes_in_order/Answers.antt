use Rattle.net_model.specs.Order.{route_cmp}
use Rattle.net_model.proofs.lemmas.Orders.{route_cmp_total}
use Rattle.net_model.proofs.lemmas.Rises.{rises-steps}
use Rattle.net_lists.proofs.order.routes_in_order.Goals as goal

pub loop-route-init : goal.loop-route-init
loop-route-init c = rises-steps route_cmp route_cmp_total c.args.routes.now
