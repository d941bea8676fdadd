-- `bridge` of an interface.
use Rattle.std.specs.Prelude.{ℕ, Bool, ◌&&◌, List, [], ◌∷◌, Option, Some, None}
use Rattle.net_model.specs.Options.{is_within}
use Rattle.document_model.specs.Entries.{passes}
use Rattle.document_model.specs.declared.PortEntry.{PortEntry}
use Rattle.document_model.specs.declared.BridgeEntry.{BridgeEntry}
use Rattle.doc_tree.specs.Shape.{Shape}
use Rattle.tree_schema.specs.Reading.{Reading, with_value, and_then, read_list}
use Rattle.tree_schema.specs.Values.{name, number, u32, boolean}
use Rattle.tree_schema.specs.Tables.{Table, value, part, more_of, read_map, needed, unknown, noted}
use Rattle.link_schema.specs.declared.draft.PortDraft.{PortDraft}

-- ---- `options.stp`

abbrev pub stp_table : Table BridgeEntry
stp_table = record {
  keys =
      value "enabled" boolean (λ (e : BridgeEntry) on. record e { stp = Some on })
      ∷ value "priority" (number 0 65535) (λ (e : BridgeEntry) n. record e { priority = Some n })
      ∷ value "forward-delay" (number 2 30) (λ (e : BridgeEntry) n. record e { forward_delay = Some n })
      ∷ value "hello-time" (number 1 10) (λ (e : BridgeEntry) n. record e { hello_time = Some n })
      ∷ value "max-age" (number 6 40) (λ (e : BridgeEntry) n. record e { max_age = Some n })
      ∷ [];
  over = [];
  others = noted;
}

-- ---- `options`

abbrev pub bridge_option_table : Table BridgeEntry
bridge_option_table = record {
  keys =
      value "mac-ageing-time" u32 (λ (e : BridgeEntry) n. record e { mac_ageing = Some n })
      ∷ more_of "stp" (λ s e. read_map stp_table e s)
      ∷ [];
  over = [];
  others = noted;
}

-- ---- `port[]`

abbrev pub port_table : Table PortDraft
port_table = record {
  keys =
      value "name" name (λ (e : PortDraft) name. record e { name = Some name })
      ∷ value "stp-path-cost" (number 1 65535) (λ (e : PortDraft) n. record e { cost = Some n })
      ∷ value "stp-priority" (number 0 63) (λ (e : PortDraft) n. record e { priority = Some n })
      ∷ value "stp-hairpin-mode" boolean (λ (e : PortDraft) on. record e { hairpin = Some on })
      ∷ [];
  over = [];
  others = noted;
}

abbrev pub no_port : PortDraft
no_port = record { name = None; cost = None; priority = None; hairpin = None }

-- what holds of it whichever keys were met
abbrev pub is_port_draft : PortDraft → Bool
is_port_draft e = passes (is_within 1 65535) e.cost && passes (is_within 0 63) e.priority

abbrev pub named_port : PortDraft → List ℕ → PortEntry
named_port e name = record { name = name; cost = e.cost; priority = e.priority; hairpin = e.hairpin }

-- its name is needed
abbrev pub port_of : PortDraft → Reading PortEntry
port_of e = with_value (named_port e) (needed "name" e.name)

abbrev pub port : Shape → Reading (Option PortEntry)
port s = with_value Some (and_then (read_map port_table no_port s) port_of)

-- ---- the section

abbrev pub bridge_table : Table BridgeEntry
bridge_table = record {
  keys =
      more_of "options" (λ s e. read_map bridge_option_table e s)
      ∷ part "port" (read_list port) (λ (e : BridgeEntry) ports. record e { ports = Some ports })
      ∷ [];
  over = [];
  others = unknown;
}

abbrev pub no_bridge : BridgeEntry
no_bridge = record { stp = None; priority = None; forward_delay = None; hello_time = None; max_age = None; mac_ageing = None; ports = None }

abbrev pub bridge : Shape → Reading BridgeEntry
bridge s = read_map bridge_table no_bridge s
