-- The orders are total, and what they tie is one.
use Rattle.std.proofs.Common.{rules}
use Rattle.std.specs.Cmp.{IsTotalOrder}
use Rattle.std.specs.Cmp.Rules.{comparing}
use Rattle.net_model.specs.Order.{address_cmp, link_cmp, route_cmp}

pub link_cmp_total : IsTotalOrder link_cmp
link_cmp_total = search (comparing, rules)

pub route_cmp_total : IsTotalOrder route_cmp
route_cmp_total = search (comparing, rules) depth 12

pub address_cmp_total : IsTotalOrder address_cmp
address_cmp_total = search (comparing, rules)
