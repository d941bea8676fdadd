use Rattle.net_model.specs.Order.{link_cmp}
use Rattle.net_model.proofs.lemmas.Orders.{link_cmp_total}
use Rattle.net_model.proofs.lemmas.Rises.{rises-steps}
use Rattle.net_lists.proofs.order.links_in_order.Goals as goal

pub loop-link-init : goal.loop-link-init
loop-link-init c = rises-steps link_cmp link_cmp_total c.args.links.now
