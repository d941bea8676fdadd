use Rattle.net_model.specs.Order.{block_cmp}
use Rattle.net_model.specs.OrderLaws.{block_cmp_total}
use Rattle.net_model.proofs.lemmas.Rises.{rises-steps}
use Rattle.net_lists.proofs.order.addresses_in_order.Goals as goal

pub loop-prefix-init : goal.loop-prefix-init
loop-prefix-init c = rises-steps block_cmp block_cmp_total c.args.addrs.now
