-- The options of the merged links: which current ones and which entry count.
use Rattle.std.specs.Prelude.{ℕ, false, ◌&&◌, List, [], map, filter, Option, Some, None, if◌then◌else◌, find}
use Rattle.std.specs.Option.{option_map_or, option_and_then, unwrap_or}
use Rattle.net_model.specs.Name.{same_bytes}
use Rattle.net_model.specs.Links.{is_bridge, is_port_of}
use Rattle.net_model.specs.Options.{default_bond, default_bridge, default_port}
use Rattle.net_model.specs.declared.Link.{Link}
use Rattle.net_model.specs.declared.Kind.{Kind}
use Rattle.net_model.specs.declared.Kind.TheVariants.{Bond, Bridge}
use Rattle.net_model.specs.declared.BondOpts.{BondOpts}
use Rattle.net_model.specs.declared.BridgeOpts.{BridgeOpts}
use Rattle.net_model.specs.declared.PortOpts.{PortOpts}
use Rattle.document_model.specs.declared.LinkEntry.{LinkEntry}
use Rattle.document_model.specs.declared.BondEntry.{BondEntry}
use Rattle.document_model.specs.declared.BridgeEntry.{BridgeEntry}
use Rattle.document_model.specs.declared.PortEntry.{PortEntry}
use Rattle.merge_model.specs.Kinds.{same_mode}
use Rattle.merge_model.specs.OptionRules.{merge_bond, merge_bridge, merge_port}
use Rattle.merge_model.specs.Members.{Member, find_member}

-- a section that states nothing
abbrev pub no_bond : BondEntry
no_bond = record { mode = None; primary = None; lacp_rate = None; hash_policy = None; miimon = None; updelay = None; downdelay = None; ports = None }

abbrev pub no_bridge : BridgeEntry
no_bridge = record { stp = None; priority = None; forward_delay = None; hello_time = None; max_age = None; mac_ageing = None; ports = None }

-- the names of the merged ports
abbrev pub merged_ports : List Member → List ℕ → List (List ℕ)
merged_ports ms name = map (λ m. m.name) (filter (λ m. option_map_or (λ c. same_bytes c name) m.controller false) ms)

-- the current options of a bond count where it was a bond of the same mode
abbrev pub if_same_mode : Kind → Link → Option BondOpts
if_same_mode kind l = if same_mode l.kind kind then Some l.bond else None

-- those of a bridge count where it was a bridge
abbrev pub if_bridge : Link → Option BridgeOpts
if_bridge l = if is_bridge l.kind then Some l.bridge else None

abbrev pub bond_of : List Member → Member → Kind → BondOpts
bond_of ms m (Bond mode) = merge_bond (option_and_then (if_same_mode m.kind) m.old) (option_map_or (λ e. e.bond) m.entry no_bond) (merged_ports ms m.name)
bond_of ms m _ = default_bond

abbrev pub bridge_of : Member → Kind → BridgeOpts
bridge_of m Bridge = merge_bridge (option_and_then if_bridge m.old) (option_map_or (λ e. e.bridge) m.entry no_bridge)
bridge_of m _ = default_bridge

-- the member that is the link's controller
abbrev pub controller_member : List Member → Member → Option Member
controller_member ms m = option_and_then (λ c. find_member c ms) m.controller

-- the current options of a port count where it was a port of the same bridge
abbrev pub if_same_bridge : Member → Link → Option PortOpts
if_same_bridge c l = if is_port_of c.name l && option_map_or (λ b. is_bridge b.kind) c.old false then Some l.port else None

-- what the entry of a bridge states for the port
abbrev pub port_entry : List ℕ → LinkEntry → Option PortEntry
port_entry name e = find (λ p. same_bytes p.name name) (unwrap_or e.bridge.ports [])

-- the defaults under a controller that is no bridge
abbrev pub port_under : Member → Member → PortOpts
port_under m c = if is_bridge c.kind then merge_port (option_and_then (if_same_bridge c) m.old) (option_and_then (port_entry m.name) c.entry) else default_port

abbrev pub port_of : List Member → Member → PortOpts
port_of ms m = option_map_or (port_under m) (controller_member ms m) default_port
