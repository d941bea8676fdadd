-- The tree of a network is simple.
use Rattle.std.proofs.Common.{◌≡◌, ℕ, List, Bool, true, false, refl}
use Rattle.std.specs.Prelude.{not, ◌&&◌, ◌==◌, codes}
use Rattle.std.proofs.lemmas.List.Elements.{All-weaker}
use Rattle.doc_tree.specs.Shape.{Shape, text}
use Rattle.net_model.specs.Address.{Address, Block, IsAddress}
use Rattle.net_model.specs.NetData.{NetData}
use Rattle.net_model.specs.Rule.{RuleParts}
use Rattle.net_model.specs.declared.dns.Dns.{Dns}
use Rattle.net_model.specs.declared.link.Link.{Link}
use Rattle.net_model.specs.declared.route.Route.{Route}
use Rattle.net_model.specs.declared.rule.Target.{Target}
use Rattle.net_model.specs.declared.rule.Target.TheVariants.{Table, Blackhole, Unreachable, Prohibit}
use Rattle.net_search.specs.Ranges.{NameRanges, DomainRanges, SubnetRanges, LinkRanges, RouteRanges, TargetRanges, RuleRanges, DnsRanges, Ranges}
use Rattle.net_text.specs.Line.{family_word}
use Rattle.show_core.specs.Fields.{number, each, address, prefix}
use Rattle.show_core.specs.Links.{link_tree}
use Rattle.show_core.specs.Network.{route_tree, target_fields, mark_fields, rule_tree, dns_tree, running, whole_tree}
use Rattle.shown_apply.proofs.Low.{low, IsSimple}
use Rattle.shown_apply.proofs.Words.{name_low, domain_low, addr_low, prefix_low}
use Rattle.shown_apply.proofs.Simple.{SimpleFields, field_simple, field_of_simple, fields_if_simple, fields_then, each_simple}
use Rattle.shown_apply.proofs.LinkTrees.{link_simple}

subnet_simple : (b : Block) → SubnetRanges b → IsSimple (prefix b)
subnet_simple b r = prefix_low b r.addr r.subnet.within

route_simple : (r : Route) → RouteRanges r → IsSimple (route_tree r)
route_simple r is =
    let pairs = fields_then (fields_then (fields_then (fields_then
    (field_simple (codes "destination") (prefix r.dest) refl (subnet_simple r.dest is.dest))
    (field_simple (codes "next-hop-interface") (text r.dev) refl (name_low r.dev is.dev)))
    (field_of_simple (codes "next-hop-address") address IsAddress r.gateway refl is.gateway addr_low))
    (field_simple (codes "metric") (number r.metric) refl is.metric))
    (field_simple (codes "table-id") (number r.table) refl is.table.most) in
    pairs.simple

target_simple : (t : Target) → TargetRanges t → SimpleFields (target_fields t)
target_simple (Table t) is = field_simple (codes "route-table") (number t) refl is.most
target_simple Blackhole is = field_simple (codes "action") (text (codes "blackhole")) refl refl
target_simple Unreachable is = field_simple (codes "action") (text (codes "unreachable")) refl refl
target_simple Prohibit is = field_simple (codes "action") (text (codes "prohibit")) refl refl

mark_simple : (r : RuleParts) → RuleRanges r → SimpleFields (mark_fields r)
mark_simple r is =
    fields_if_simple (not ((r.mark == 0) && (r.mask == 0))) (fields_then (field_simple (codes "fwmark") (number r.mark) refl is.mark) (field_simple (codes "fwmask") (number r.mask) refl is.mask))

family_low : (v6 : Bool) → low (family_word v6) ≡ true
family_low true = refl
family_low false = refl

rule_simple : (r : RuleParts) → RuleRanges r → IsSimple (rule_tree r)
rule_simple r is =
    let pairs = fields_then (fields_then (fields_then (fields_then (fields_then (fields_then
    (field_simple (codes "priority") (number r.priority) refl is.priority)
    (field_simple (codes "family") (text (family_word r.v6)) refl (family_low r.v6)))
    (field_of_simple (codes "ip-from") prefix SubnetRanges r.src refl is.src subnet_simple))
    (field_of_simple (codes "ip-to") prefix SubnetRanges r.dst refl is.dst subnet_simple))
    (field_of_simple (codes "iif") text NameRanges r.iif refl is.iif name_low))
    (mark_simple r is))
    (target_simple r.target is.target) in
    pairs.simple

dns_simple : (d : Dns) → DnsRanges d → IsSimple (dns_tree d)
dns_simple d is =
    let listed = each_simple address d.servers (All-weaker IsAddress (λ (a : Address). IsSimple (address a)) addr_low d.servers is.servers) in
    let searched = each_simple text d.search (All-weaker DomainRanges (λ (name : List ℕ). IsSimple (text name)) domain_low d.search is.search) in
    (refl, listed, (refl, searched, tt))

running_simple : (s : Shape) → IsSimple s → IsSimple (running s)
running_simple s is = (refl, is, (refl, is, tt))

-- the whole tree
pub whole_simple : (net : NetData) → Ranges net → IsSimple (whole_tree net)
whole_simple net ranges =
    let dns = running_simple (dns_tree net.dns) (dns_simple net.dns ranges.dns) in
    let rules = each_simple rule_tree net.rules (All-weaker RuleRanges (λ (r : RuleParts). IsSimple (rule_tree r)) rule_simple net.rules ranges.rules) in
    let routes = each_simple route_tree net.routes (All-weaker RouteRanges (λ (r : Route). IsSimple (route_tree r)) route_simple net.routes ranges.routes) in
    let links = each_simple (link_tree net.links) net.links (All-weaker LinkRanges (λ (l : Link). IsSimple (link_tree net.links l)) (link_simple net.links ranges.links) net.links ranges.links) in
    (refl, dns, (refl, (refl, rules, tt), (refl, running_simple (each route_tree net.routes) routes, (refl, links, tt))))
