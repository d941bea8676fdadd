use Rattle.std.proofs.Common.{◌∙◌, List, not, filter, ap}
use Rattle.net_model.specs.Words.{rises, is_among}
use Rattle.net_model.specs.Order.{link_cmp}
use Rattle.net_model.specs.Lists.{NetData}
use Rattle.net_model.specs.Valid.{vlans_differ}
use Rattle.net_model.specs.declared.link.Link.{Link}
use Rattle.net_lists.proofs.lemmas.Going.{rises_freed, twins_freed, free_then_keep}
use Rattle.net_core.proofs.parts.Parts.remove_links.Goals as goal

pub keep_links-requires-clause-in_order : goal.keep_links-requires-clause-in_order
keep_links-requires-clause-in_order c =
    ap (λ (n : NetData). rises link_cmp n.links) c.free_links.ensures ∙ rises_freed (is_among c.args.goes.now) c.args.self.now.links c.requires.in_order

pub keep_links-requires-clause-twins : goal.keep_links-requires-clause-twins
keep_links-requires-clause-twins c =
    ap (λ (n : NetData). vlans_differ n.links) c.free_links.ensures ∙ twins_freed (is_among c.args.goes.now) c.args.self.now.links c.requires.twins

pub returns : goal.returns
returns c =
    let net : NetData = c.args.self.now in
    let goes = is_among c.args.goes.now in
    c.remove_routes_of.ensures
    ∙ ap (λ (n : NetData). let m : NetData = record n { routes = filter (λ r. not (goes r.dev)) n.routes } in m) c.keep_links.ensures
    ∙ ap (λ (n : NetData). let m : NetData = record n { links = filter (λ l. not (goes l.name)) n.links; routes = filter (λ r. not (goes r.dev)) n.routes } in m) c.free_links.ensures
    ∙ ap (λ (ls : List Link). let m : NetData = record net { links = ls; routes = filter (λ r. not (goes r.dev)) net.routes } in m) (free_then_keep goes net.links)
