-- The whole document.
use Rattle.std.proofs.Common.{◌≡◌, List, map, codes, slice_index_or, Some, refl, ap}
use Rattle.std.specs.List.{All}
use Rattle.net_model.specs.NetData.{NetData, IsNet}
use Rattle.net_model.specs.Rule.{RuleParts}
use Rattle.net_model.specs.declared.route.Route.{Route}
use Rattle.net_model.proofs.lemmas.FactsHold.{facts}
use Rattle.net_search.specs.Ranges.{Ranges}
use Rattle.document_model.specs.declared.DnsEntry.{DnsEntry}
use Rattle.document_model.specs.declared.LinkEntry.{LinkEntry}
use Rattle.document_model.specs.declared.RouteEntry.{RouteEntry}
use Rattle.document_model.specs.declared.RuleEntry.{RuleEntry}
use Rattle.doc_tree.specs.Shape.{list, Shapes, shapes_of}
use Rattle.show_core.specs.Fields.{fields, field, each}
use Rattle.show_core.specs.Links.{link_tree}
use Rattle.show_core.specs.Network.{route_tree, rule_tree, dns_tree, running, whole_tree}
use Rattle.tree_schema.specs.Faults.{told}
use Rattle.tree_schema.specs.Reading.{given, with_value, and_then, read_list}
use Rattle.link_schema.specs.Interface.{interfaces}
use Rattle.link_schema.specs.Links.{links}
use Rattle.route_schema.specs.Dns.{dns}
use Rattle.route_schema.specs.Under.{routes_under, rules_under, dns_under}
use Rattle.document_schema.specs.Document.{parts, doc}
use Rattle.route_schema.specs.Routes.{route, routes}
use Rattle.route_schema.specs.Rules.{rule, rules}
use Rattle.shown_model.specs.Shown.{shown_link, shown_route, shown_rule, shown_dns}
use Rattle.shown_model.specs.Printable.{IsPrintable}
use Rattle.shown_reading.specs.Laws.{ReadsLinksAsShown, ReadsAllAsShown, AnswersAsShown}
use Rattle.shown_reading.proofs.Dns.{dns_reads}
use Rattle.shown_reading.proofs.Links.{IsShown, links_read}
use Rattle.shown_reading.proofs.Routes.{route_reads}
use Rattle.shown_reading.proofs.Rules.{rule_reads}
use Rattle.shown_reading.proofs.Steps.{then_reads, list_reads}

-- ---- interfaces

-- each link of a printable network
each_shown : (net : NetData) → IsNet net → Ranges net → IsPrintable net → All IsShown net.links
each_shown net is ranges printable i d lt =
    let l = slice_index_or net.links i d in
    let known = facts net is in
    let own = known.link l.name l (known.link_at i d lt) in
    let r = ranges.links i d lt in
    record {
      ranges = r;
      least_mtu = own.least_mtu;
      most_mtu = own.most_mtu;
      bridge = own.bridge_right;
      port = own.port_right;
      station = printable.stations i d lt;
      addrs = λ j b within. record { ranges = r.addrs j b within; far = printable.no_link_local i d lt j b within };
    }

links_at : (net : NetData) (entries : List LinkEntry) → interfaces (each (link_tree net.links) net.links) ≡ given entries → links (whole_tree net) ≡ given entries
links_at net entries h = rw h refl

-- the interfaces of the whole tree
pub links_shown : ReadsLinksAsShown
links_shown net is ranges printable = links_at net (map (shown_link net.links) net.links) (links_read net.links (each_shown net is ranges printable))

-- ---- routes

routes_at : (ss : Shapes) (entries : List RouteEntry) → read_list route (list ss) ≡ given entries → routes (running (list ss)) ≡ given entries
routes_at ss entries h = rw h refl

each_route : (net : NetData) → IsNet net → Ranges net → All (λ (r : Route). route (route_tree r) ≡ given (Some (shown_route r))) net.routes
each_route net is ranges i d lt =
    let known = (facts net is).route i d lt in
    route_reads known.link (slice_index_or net.routes i d) (ranges.routes i d lt) known.on_link

under_routes : (net : NetData) (entries : List RouteEntry) → routes (running (each route_tree net.routes)) ≡ given entries → routes_under (whole_tree net) ≡ given entries
under_routes net entries h = rw h refl

routes_shown : (net : NetData) → IsNet net → Ranges net → routes_under (whole_tree net) ≡ given (map shown_route net.routes)
routes_shown net is ranges =
    under_routes net (map shown_route net.routes)
    (routes_at (shapes_of (map route_tree net.routes)) (map shown_route net.routes) (list_reads route_tree route shown_route net.routes (each_route net is ranges)))

-- ---- rules

rules_at : (ss : Shapes) (entries : List RuleEntry) → read_list rule (list ss) ≡ given entries → rules (fields (field (codes "config") (list ss))) ≡ given entries
rules_at ss entries h = rw h refl

each_rule : (net : NetData) → Ranges net → All (λ (r : RuleParts). rule (rule_tree r) ≡ given (Some (shown_rule r))) net.rules
each_rule net ranges i d lt = rule_reads (slice_index_or net.rules i d) (ranges.rules i d lt)

under_rules : (net : NetData) (entries : List RuleEntry) → rules (fields (field (codes "config") (each rule_tree net.rules))) ≡ given entries → rules_under (whole_tree net) ≡ given entries
under_rules net entries h = rw h refl

rules_shown : (net : NetData) → Ranges net → rules_under (whole_tree net) ≡ given (map shown_rule net.rules)
rules_shown net ranges =
    under_rules net (map shown_rule net.rules)
    (rules_at (shapes_of (map rule_tree net.rules)) (map shown_rule net.rules) (list_reads rule_tree rule shown_rule net.rules (each_rule net ranges)))

-- ---- DNS

under_dns : (net : NetData) (entry : DnsEntry) → dns (running (dns_tree net.dns)) ≡ given (Some entry) → dns_under (whole_tree net) ≡ given (Some entry)
under_dns net entry h = rw h refl

dns_shown : (net : NetData) → Ranges net → dns_under (whole_tree net) ≡ given (Some (shown_dns net.dns))
dns_shown net ranges = under_dns net (shown_dns net.dns) (dns_reads net.dns ranges.dns)

-- ---- all four

-- the whole tree
pub parts_shown : ReadsAllAsShown
parts_shown net is ranges printable =
    let tree = whole_tree net in
    let ls = map (shown_link net.links) net.links in
    let rs = map shown_route net.routes in
    let us = map shown_rule net.rules in
    let whole = given (parts ls rs us (Some (shown_dns net.dns))) in
    let fourth = ap (with_value (parts ls rs us)) (dns_shown net ranges) in
    let third = then_reads (rules_under tree) (λ u. with_value (parts ls rs u) (dns_under tree)) us whole (rules_shown net ranges) fourth in
    let second = then_reads (routes_under tree) (λ r. and_then (rules_under tree) (λ u. with_value (parts ls r u) (dns_under tree))) rs whole (routes_shown net is ranges) third in
    then_reads (links tree) (λ l. and_then (routes_under tree) (λ r. and_then (rules_under tree) (λ u. with_value (parts l r u) (dns_under tree)))) ls whole (links_shown net is ranges printable) second

-- what is answered for it
pub document_shown : AnswersAsShown
document_shown net is ranges printable = ap (told doc) (parts_shown net is ranges printable)
