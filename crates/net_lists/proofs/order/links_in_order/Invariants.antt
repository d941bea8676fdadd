use Rattle.std.proofs.Common.{◌≡◌, length}
use Rattle.net_model.specs.Words.{rises, steps_up}
use Rattle.net_model.specs.Order.{link_cmp}
use Rattle.net_lists.proofs.order.links_in_order.Given as goal

-- what is left decides
abbrev pub invariant-loop-link : goal.invariant-loop-link
invariant-loop-link l = steps_up link_cmp l.left ≡ rises link_cmp l.fn.links

abbrev pub decreases-loop-link : goal.decreases-loop-link
decreases-loop-link l = length l.left
