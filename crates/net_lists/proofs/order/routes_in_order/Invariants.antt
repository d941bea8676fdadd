use Rattle.std.proofs.Common.{◌≡◌, length}
use Rattle.net_model.specs.Words.{rises, steps_up}
use Rattle.net_model.specs.Order.{route_cmp}
use Rattle.net_lists.proofs.order.routes_in_order.Given as goal

-- what is left decides
abbrev pub invariant-loop-route : goal.invariant-loop-route
invariant-loop-route l = steps_up route_cmp l.left ≡ rises route_cmp l.fn.routes

abbrev pub decreases-loop-route : goal.decreases-loop-route
decreases-loop-route l = length l.left
