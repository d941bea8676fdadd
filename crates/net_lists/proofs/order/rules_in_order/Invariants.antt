use Rattle.std.proofs.Common.{◌≡◌, length}
use Rattle.net_model.specs.Words.{rises, steps_up}
use Rattle.net_model.specs.Order.{rule_cmp}
use Rattle.net_lists.proofs.order.rules_in_order.Given as goal

-- what is left decides
abbrev pub invariant-loop-rule : goal.invariant-loop-rule
invariant-loop-rule l = steps_up rule_cmp l.left ≡ rises rule_cmp l.fn.rules

abbrev pub decreases-loop-rule : goal.decreases-loop-rule
decreases-loop-rule l = length l.left
