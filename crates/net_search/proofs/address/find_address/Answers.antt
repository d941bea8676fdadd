use Rattle.std.proofs.Common.{◌≡◌, ap, sym, ◌∙◌, Some, option_copied}
use Rattle.net_model.specs.Words.{rises}
use Rattle.net_model.specs.Order.{block_cmp}
use Rattle.net_model.specs.Links.{find_link}
use Rattle.net_model.specs.Valid.{addresses_differ}
use Rattle.net_model.specs.declared.link.Link.{Link}
use Rattle.net_model.proofs.lemmas.ByName.{all_found}
use Rattle.net_search.proofs.address.find_address.Goals as goal

pub find_in-requires-clause-in_order : goal.find_in-requires-clause-in_order
find_in-requires-clause-in_order c =
    let there : find_link c.args.link.now c.args.net.now.links ≡ Some c.in-Some.found.now = sym c.link.ensures ∙ ap option_copied c.in-Some.is in
    ap (rises block_cmp) (c.deref.ensures.value ∙ c.items.ensures)
    ∙ all_found (λ (l : Link). rises block_cmp l.addrs) c.args.net.now.links c.args.link.now c.in-Some.found.now c.laws.ensures.net.in_order.addrs there

pub find_in-requires-clause-differ : goal.find_in-requires-clause-differ
find_in-requires-clause-differ c =
    let there : find_link c.args.link.now c.args.net.now.links ≡ Some c.in-Some.found.now = sym c.link.ensures ∙ ap option_copied c.in-Some.is in
    let facts = c.laws.ensures.facts.link c.args.link.now c.in-Some.found.now there in
    ap addresses_differ (c.deref.ensures.value ∙ c.items.ensures) ∙ facts.address_once
