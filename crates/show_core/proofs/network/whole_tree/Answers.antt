use Rattle.std.proofs.Common.{◌∙◌, List, codes, subst}
use Rattle.net_model.specs.Rule.{RuleParts}
use Rattle.net_model.specs.declared.dns.Dns.{Dns}
use Rattle.net_model.specs.declared.link.Link.{Link}
use Rattle.net_model.specs.declared.route.Route.{Route}
use Rattle.show_core.specs.Fields.{fields, field, each}
use Rattle.show_core.specs.Links.{link_tree}
use Rattle.show_core.specs.Network.{route_tree, rule_tree, dns_tree, running}
use Rattle.show_core.specs.Pairs.{IsTree}
use Rattle.show_core.proofs.network.whole_tree.Goals as goal

pub returns : goal.returns
returns c =
    let dns = subst (λ (d : Dns). IsTree (running (dns_tree d)) c.dns_section.result) c.dns.ensures c.dns_section.ensures in
    let rules = subst (λ (rs : List RuleParts). IsTree (fields (field (codes "config") (each rule_tree rs))) c.rules_section.result) (c.deref.ensures.value ∙ c.rules.ensures) c.rules_section.ensures in
    let routes = subst (λ (rs : List Route). IsTree (running (each route_tree rs)) c.routes_section.result) (c.deref-2.ensures.value ∙ c.routes.ensures) c.routes_section.ensures in
    let links = subst (λ (ls : List Link). IsTree (each (link_tree ls) ls) c.all_links.result) (c.deref-3.ensures.value ∙ c.links.ensures) c.all_links.ensures in
    let resolver = c.put.ensures _ _ c.new.ensures dns in
    let ruled = c.put-2.ensures _ _ resolver rules in
    let routed = c.put-3.ensures _ _ ruled routes in
    let linked = c.put-4.ensures _ _ routed links in
    c.into_tree.ensures _ linked
