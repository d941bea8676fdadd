use Rattle.std.proofs.Common.{◌≡◌, length}
use Rattle.net_model.specs.Words.{rises, steps_up}
use Rattle.net_model.specs.Order.{block_cmp}
use Rattle.net_lists.proofs.order.addresses_in_order.Given as goal

-- what is left decides
abbrev pub invariant-loop-prefix : goal.invariant-loop-prefix
invariant-loop-prefix l = steps_up block_cmp l.left ≡ rises block_cmp l.fn.addrs

abbrev pub decreases-loop-prefix : goal.decreases-loop-prefix
decreases-loop-prefix l = length l.left
