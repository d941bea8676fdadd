-- The tree of a network is writable. It has at most 7 levels: the whole, the list of links, a link, the section of a
-- bridge, its options, those of STP, and each of these.
use Rattle.std.proofs.Common.{ℕ, List, [], ◌∷◌, Option, Some, None, refl, arith}
use Rattle.std.specs.Prelude.{pos, not, ◌&&◌, ◌==◌, codes, filter, slice_index_or}
use Rattle.std.specs.List.{All}
use Rattle.std.proofs.lemmas.List.Elements.{All-filter}
use Rattle.doc_tree.specs.Shape.{Shape, text}
use Rattle.net_model.specs.Facts.{Facts}
use Rattle.net_model.specs.Links.{is_named}
use Rattle.net_model.specs.NetData.{NetData}
use Rattle.net_model.specs.Rule.{RuleParts}
use Rattle.net_model.specs.declared.dns.Dns.{Dns}
use Rattle.net_model.specs.declared.route.Route.{Route}
use Rattle.net_model.specs.declared.rule.Target.{Target}
use Rattle.net_model.specs.declared.rule.Target.TheVariants.{Table, Blackhole, Unreachable, Prohibit}
use Rattle.net_text.specs.AddrText.{prefix_text}
use Rattle.net_text.specs.Line.{family_word}
use Rattle.show_core.specs.Fields.{each, address, prefix}
use Rattle.show_core.specs.Links.{link_tree}
use Rattle.show_core.specs.Network.{route_tree, target_fields, mark_fields, rule_tree, dns_tree, running, whole_tree, named_tree, network_tree}
use Rattle.show_core.proofs.lemmas.Writable.{IsWritable, IsShort, AddsKeys, text_writable, whole_writable, none, skip, one, key, key_of, keys_if, keys_then, map_writable, fields_writable, list_writable, each_writable}
use Rattle.show_core.proofs.lemmas.LinkTrees.{filter_short, link_writable}

route_writable : (r : Route) → IsWritable 4 (route_tree r)
route_writable r =
    fields_writable (keys_then (keys_then (keys_then (keys_then
    (key (codes "destination") (text_writable {s = prefix_text r.dest}))
    (key (codes "next-hop-interface") (text_writable {s = r.dev})))
    (key_of (codes "next-hop-address") address r.gateway (λ a. text_writable)))
    (key (codes "metric") (whole_writable {z = pos r.metric})))
    (key (codes "table-id") (whole_writable {z = pos r.table})))
    refl

target_keys : (t : Target) → AddsKeys 3 (codes "route-table" ∷ codes "action" ∷ []) (target_fields t)
target_keys (Table t) = record { before = λ ls gs rest. one whole_writable (skip rest) }
target_keys Blackhole = record { before = λ ls gs rest. skip (one text_writable rest) }
target_keys Unreachable = record { before = λ ls gs rest. skip (one text_writable rest) }
target_keys Prohibit = record { before = λ ls gs rest. skip (one text_writable rest) }

mark_keys : (r : RuleParts) → AddsKeys 3 (codes "fwmark" ∷ codes "fwmask" ∷ []) (mark_fields r)
mark_keys r = keys_if (not ((r.mark == 0) && (r.mask == 0))) (keys_then (key (codes "fwmark") (whole_writable {z = pos r.mark})) (key (codes "fwmask") (whole_writable {z = pos r.mask})))

rule_writable : (r : RuleParts) → IsWritable 4 (rule_tree r)
rule_writable r =
    fields_writable (keys_then (keys_then (keys_then (keys_then (keys_then (keys_then
    (key (codes "priority") (whole_writable {z = pos r.priority}))
    (key (codes "family") (text_writable {s = family_word r.v6})))
    (key_of (codes "ip-from") prefix r.src (λ b. text_writable)))
    (key_of (codes "ip-to") prefix r.dst (λ b. text_writable)))
    (key_of (codes "iif") text r.iif (λ name. text_writable)))
    (mark_keys r))
    (target_keys r.target))
    refl

dns_writable : (d : Dns) → IsShort d.servers → IsShort d.search → IsWritable 5 (dns_tree d)
dns_writable d servers search =
    let listed = each_writable 3 address d.servers servers (λ a. text_writable) in
    let searched = each_writable 3 text d.search search (λ name. text_writable) in
    map_writable (one listed (one searched none)) refl

running_writable : (s : Shape) → IsWritable 5 s → IsWritable 6 (running s)
running_writable s is = map_writable (one is (one is none)) refl

module _ (net : NetData) (facts : Facts net) where
  links_short : IsShort net.links
  links_short = omega (arith, facts.few_links)

  links_writable : All (λ l. IsWritable 5 (link_tree net.links l)) net.links
  links_writable i d lt =
      let l = slice_index_or net.links i d in
      let of_link = facts.link l.name l (facts.link_at i d lt) in
      link_writable net.links links_short l (omega (arith, of_link.few_addresses))

  -- the whole tree
  pub all_writable : IsWritable 7 (whole_tree net)
  all_writable =
      let dns = running_writable (dns_tree net.dns) (dns_writable net.dns (omega (arith, facts.few_servers)) (omega (arith, facts.few_searched))) in
      let rules = each_writable 4 rule_tree net.rules (omega (arith, facts.few_rules)) rule_writable in
      let routes = each_writable 4 route_tree net.routes (omega (arith, facts.few_routes)) route_writable in
      let links = list_writable 5 (link_tree net.links) net.links links_short links_writable in
      map_writable (one dns (one (map_writable (one rules none) refl) (one (running_writable (each route_tree net.routes) routes) (one links none)))) refl

  named_writable : (name : List ℕ) → IsWritable 7 (named_tree net name)
  named_writable name =
      let found = All-filter (is_named name) (λ l. IsWritable 5 (link_tree net.links l)) net.links links_writable in
      let links = list_writable 5 (link_tree net.links) (filter (is_named name) net.links) (filter_short (is_named name) net.links links_short) found in
      map_writable (one links none) refl

  -- the whole tree, or that of a link's name
  pub network_writable : (only : Option (List ℕ)) → IsWritable 7 (network_tree net only)
  network_writable None = all_writable
  network_writable (Some name) = named_writable name
