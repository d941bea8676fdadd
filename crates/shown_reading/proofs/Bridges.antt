-- Sections of bridges.
use Rattle.std.proofs.Common.{◌≡◌, ℕ, ◌&&◌, true, nat_le, List, ◌++◌, codes, Some, None, Ok, refl, arith}
use Rattle.std.proofs.lemmas.Bool.{and_parts, leb-true}
use Rattle.net_model.specs.Options.{is_within, bridge_in_range, port_in_range}
use Rattle.net_model.specs.declared.link.Link.{Link}
use Rattle.net_model.specs.declared.options.BridgeOpts.{BridgeOpts}
use Rattle.net_search.specs.Ranges.{NameRanges, BridgeRanges, PortRanges}
use Rattle.document_model.specs.declared.BridgeEntry.{BridgeEntry}
use Rattle.document_model.specs.declared.PortEntry.{PortEntry}
use Rattle.doc_tree.specs.Shape.{list, mapping, Shapes, Pairs, pairs_of}
use Rattle.show_core.specs.Fields.{fields, field}
use Rattle.show_core.specs.Fields as show
use Rattle.show_core.specs.Links.{stp_options, bridge_options, bridge_port}
use Rattle.tree_schema.specs.Reading.{given, read_list}
use Rattle.tree_schema.specs.Tables.{read_map}
use Rattle.tree_schema.specs.Values.{number, u32}
use Rattle.link_schema.specs.Bridge.{stp_table, bridge_option_table, port, bridge}
use Rattle.shown_model.specs.Shown.{no_bridge, shown_port}
use Rattle.shown_reading.proofs.Values.{number_reads, number_within, u32_reads, name_reads}

-- ---- `options`

abbrev with_ageing : BridgeOpts → BridgeEntry
with_ageing o = record { stp = None; priority = None; forward_delay = None; hello_time = None; max_age = None; mac_ageing = Some o.mac_ageing; ports = None }

abbrev with_options : BridgeOpts → BridgeEntry
with_options o = record { stp = Some o.stp; priority = Some o.priority; forward_delay = Some o.forward_delay; hello_time = Some o.hello_time; max_age = Some o.max_age; mac_ageing = Some o.mac_ageing; ports = None }

stp_reads : (o : BridgeOpts) → BridgeRanges o → bridge_in_range o ≡ true → read_map stp_table (with_ageing o) (fields (stp_options o)) ≡ given (with_options o)
stp_reads o r right =
    let first = and_parts (is_within 2 30 o.forward_delay && is_within 1 10 o.hello_time) (is_within 6 40 o.max_age) right in
    let second = and_parts (is_within 2 30 o.forward_delay) (is_within 1 10 o.hello_time) first.0 in
    let a : number 0 65535 (show.number o.priority) ≡ Ok o.priority = number_reads 0 65535 o.priority (omega arith) (omega (arith, r.priority)) in
    let b = number_within 2 30 o.forward_delay second.0 in
    let c = number_within 1 10 o.hello_time second.1 in
    let d = number_within 6 40 o.max_age first.1 in
    rw (a, b, c, d) refl

options_at : (n : ℕ) (ps : Pairs) (f : BridgeEntry) → u32 (show.number n) ≡ Ok n → read_map stp_table (record no_bridge { mac_ageing = Some n }) (mapping ps) ≡ given f
    → read_map bridge_option_table no_bridge (fields (field (codes "mac-ageing-time") (show.number n) ++ field (codes "stp") (mapping ps))) ≡ given f
options_at n ps f h k = rw (h, k) refl

options_read : (o : BridgeOpts) → BridgeRanges o → bridge_in_range o ≡ true → read_map bridge_option_table no_bridge (fields (bridge_options o)) ≡ given (with_options o)
options_read o r right = options_at o.mac_ageing (pairs_of (stp_options o)) (with_options o) (u32_reads o.mac_ageing r.mac_ageing) (stp_reads o r right)

-- ---- `port[]`

-- an entry of a bridge's ports
pub port_reads : (p : Link) → NameRanges p.name → PortRanges p.port → port_in_range p.port ≡ true → port (bridge_port p) ≡ given (Some (shown_port p))
port_reads p named r right =
    let both = and_parts (nat_le 1 p.port.cost) (nat_le p.port.priority 63) right in
    let a = name_reads p.name named.named in
    let b : number 1 65535 (show.number p.port.cost) ≡ Ok p.port.cost = number_reads 1 65535 p.port.cost (leb-true 1 p.port.cost both.0) (omega (arith, r.cost)) in
    let c : number 0 63 (show.number p.port.priority) ≡ Ok p.port.priority = number_reads 0 63 p.port.priority (omega arith) (leb-true p.port.priority 63 both.1) in
    rw (a, b, c) refl

-- ---- the section

section_reads : (ps : Pairs) (ss : Shapes) (e : BridgeEntry) (ports : List PortEntry) → read_map bridge_option_table no_bridge (mapping ps) ≡ given e → read_list port (list ss) ≡ given ports
    → bridge (fields (field (codes "options") (mapping ps) ++ field (codes "port") (list ss))) ≡ given (record e { ports = Some ports })
section_reads ps ss e ports h k = rw (h, k) refl

-- a bridge's section with its options and the list of its ports
pub bridge_reads : (o : BridgeOpts) (ss : Shapes) (ports : List PortEntry) → BridgeRanges o → bridge_in_range o ≡ true → read_list port (list ss) ≡ given ports
    → bridge (fields (field (codes "options") (fields (bridge_options o)) ++ field (codes "port") (list ss))) ≡ given (record (with_options o) { ports = Some ports })
bridge_reads o ss ports r right k = section_reads (pairs_of (bridge_options o)) ss (with_options o) ports (options_read o r right) k
