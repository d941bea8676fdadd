-- What validity says of the members' links before, and the readers of their entries.
use Rattle.std.proofs.Common.{◌≡◌, Bool, true, false, ◌&&◌, nat_le, List}
use Rattle.std.specs.List.{list_all}
use Rattle.std.specs.Option.{option_map_or}
use Rattle.net_model.specs.Links.{base_passes}
use Rattle.net_model.specs.Options.{bond_fits, bridge_in_range, port_in_range}
use Rattle.net_model.specs.Valid.{HasAllParts, mtu_in_range}
use Rattle.net_model.specs.Lists.{NetData}
use Rattle.net_model.specs.declared.Link.{Link}
use Rattle.net_model.proofs.lemmas.Truth.{and_left, and_right}
use Rattle.document_model.specs.declared.Doc.{Doc}
use Rattle.document_model.specs.declared.LinkEntry.{LinkEntry}
use Rattle.document_model.specs.Entries.{passes, is_ip_entry, is_bridge_entry, is_link_entry, is_route_entry, is_rule_entry, is_document}
use Rattle.merge_model.specs.Members.{Member}
use Rattle.merge_model.specs.Lifted.{members}
use Rattle.merge_laws.proofs.Searches.{all_weaker}
use Rattle.merge_laws.proofs.Members.{olds_known, entries_known}

abbrev pub entry_passes : (LinkEntry → Bool) → Member → Bool
entry_passes p m = option_map_or p m.entry true

abbrev pub old_passes : (Link → Bool) → Member → Bool
old_passes p m = option_map_or p m.old true

abbrev pub mtu_stated_right : LinkEntry → Bool
mtu_stated_right e = passes mtu_in_range e.mtu

abbrev pub v4_stated_right : LinkEntry → Bool
v4_stated_right e = passes (is_ip_entry false) e.v4

abbrev pub v6_stated_right : LinkEntry → Bool
v6_stated_right e = passes (is_ip_entry true) e.v6

abbrev pub bridge_stated_right : LinkEntry → Bool
bridge_stated_right e = is_bridge_entry e.bridge

abbrev pub mtu_right : Link → Bool
mtu_right l = mtu_in_range l.mtu

abbrev pub options_right : Link → Bool
options_right l = bridge_in_range l.bridge && port_in_range l.port

pub record IsKnown (ms : List Member) : Type 0 where
  pub entry_mtus : list_all (entry_passes mtu_stated_right) ms ≡ true
  pub entry_v4 : list_all (entry_passes v4_stated_right) ms ≡ true
  pub entry_v6 : list_all (entry_passes v6_stated_right) ms ≡ true
  pub entry_bridges : list_all (entry_passes bridge_stated_right) ms ≡ true
  pub old_mtus : list_all (old_passes mtu_right) ms ≡ true
  pub old_options : list_all (old_passes options_right) ms ≡ true

record LinkFits (e : LinkEntry) : Type 0 where
  pub mtu : mtu_stated_right e ≡ true
  pub v4 : v4_stated_right e ≡ true
  pub v6 : v6_stated_right e ≡ true
  pub bridge : bridge_stated_right e ≡ true

five : (a b c d e : Bool) → (a && b && c && d && e) ≡ true → (a ≡ true) × (c ≡ true) × (d ≡ true) × (e ≡ true)
five a b c d e h =
    let abcd = and_left (a && b && c && d) e h in
    let abc = and_left (a && b && c) d abcd in
    (and_left a b (and_left (a && b) c abc), and_right (a && b) c abc, and_right (a && b && c) d abcd, and_right (a && b && c && d) e h)

link_parts : (e : LinkEntry) → is_link_entry e ≡ true → LinkFits e
link_parts e h =
    let p = five (passes mtu_in_range e.mtu) _ (passes (is_ip_entry false) e.v4) (passes (is_ip_entry true) e.v6) (is_bridge_entry e.bridge) h in
    record { mtu = p.0; v4 = p.1; v6 = p.2; bridge = p.3 }

regrouped : (b : Bool) (c d : Bool) → (b && c && d) ≡ true → (c && d) ≡ true
regrouped true c d h = h
regrouped false c d h = absurd cc

pub members_known : (net : NetData) (doc : Doc) → HasAllParts net → is_document doc ≡ true → IsKnown (members net.links doc.links)
members_known net doc p fits =
    let each : list_all is_link_entry doc.links ≡ true = and_left (list_all is_link_entry doc.links) (list_all is_route_entry doc.routes) (and_left (list_all is_link_entry doc.links && list_all is_route_entry doc.routes) (list_all is_rule_entry doc.rules) fits) in
    record {
      entry_mtus = entries_known mtu_stated_right net.links doc.links (all_weaker is_link_entry mtu_stated_right (λ e h. (link_parts e h).mtu) doc.links each);
      entry_v4 = entries_known v4_stated_right net.links doc.links (all_weaker is_link_entry v4_stated_right (λ e h. (link_parts e h).v4) doc.links each);
      entry_v6 = entries_known v6_stated_right net.links doc.links (all_weaker is_link_entry v6_stated_right (λ e h. (link_parts e h).v6) doc.links each);
      entry_bridges = entries_known bridge_stated_right net.links doc.links (all_weaker is_link_entry bridge_stated_right (λ e h. (link_parts e h).bridge) doc.links each);
      old_mtus = olds_known mtu_right net.links doc.links (all_weaker (λ l. mtu_in_range l.mtu && base_passes (λ b. nat_le l.mtu b.mtu) net.links l.kind) mtu_right (λ l h. and_left (mtu_in_range l.mtu) (base_passes (λ b. nat_le l.mtu b.mtu) net.links l.kind) h) net.links p.mtus);
      old_options = olds_known options_right net.links doc.links (all_weaker (λ l. bond_fits net.links l l.kind && bridge_in_range l.bridge && port_in_range l.port) options_right (λ l h. regrouped (bond_fits net.links l l.kind) (bridge_in_range l.bridge) (port_in_range l.port) h) net.links p.options);
    }
