use Rattle.net_model.specs.Order.{rule_cmp}
use Rattle.net_model.specs.OrderLaws.{rule_cmp_total}
use Rattle.net_model.proofs.lemmas.Rises.{rises-steps}
use Rattle.net_lists.proofs.order.rules_in_order.Goals as goal

pub loop-rule-init : goal.loop-rule-init
loop-rule-init c = rises-steps rule_cmp rule_cmp_total c.args.rules.now
