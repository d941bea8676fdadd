use Rattle.std.proofs.Common.{rules, ◌≡◌, true, Some}
use Rattle.net_model.specs.Words.{rises}
use Rattle.net_model.specs.Order.{block_cmp}
use Rattle.net_model.specs.Links.{find_link}
use Rattle.net_model.specs.Valid.{addresses_differ}
use Rattle.plan_core.proofs.has.has_address.Goals as goal

pub has_prefix-requires-clause-in_order : goal.has_prefix-requires-clause-in_order
has_prefix-requires-clause-in_order c =
    let found : find_link c.args.name.now c.args.net.now.links ≡ Some c.in-Some.link.now = search rules in
    let fact : rises block_cmp c.in-Some.link.now.addrs ≡ true = (c.laws.ensures.facts.link c.args.name.now c.in-Some.link.now found).addresses_rise in
    search (rules, fact)

pub has_prefix-requires-clause-differ : goal.has_prefix-requires-clause-differ
has_prefix-requires-clause-differ c =
    let found : find_link c.args.name.now c.args.net.now.links ≡ Some c.in-Some.link.now = search rules in
    let fact : addresses_differ c.in-Some.link.now.addrs ≡ true = (c.laws.ensures.facts.link c.args.name.now c.in-Some.link.now found).address_once in
    search (rules, fact)
