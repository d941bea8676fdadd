-- The options of bonds, bridges and ports: each the stated one, else the current one, else the default.
use Rattle.std.specs.Prelude.{ℕ, List, Option, Some, None, if◌then◌else◌}
use Rattle.std.specs.Option.{unwrap_or}
use Rattle.net_model.specs.Words.{is_among}
use Rattle.net_model.specs.Options.{default_bond, default_bridge, default_port}
use Rattle.net_model.specs.declared.BondOpts.{BondOpts}
use Rattle.net_model.specs.declared.BridgeOpts.{BridgeOpts}
use Rattle.net_model.specs.declared.PortOpts.{PortOpts}
use Rattle.document_model.specs.declared.BondEntry.{BondEntry}
use Rattle.document_model.specs.declared.BridgeEntry.{BridgeEntry}
use Rattle.document_model.specs.declared.PortEntry.{PortEntry}
use Rattle.document_model.specs.declared.Claim.{Claim}
use Rattle.merge_model.specs.Stated.{claimed}

-- the name, where it is among these
abbrev pub if_among : List (List ℕ) → Option (List ℕ) → Option (List ℕ)
if_among names None = None
if_among names (Some name) = if is_among names name then Some name else None

-- the stated primary, else the current one where it is still a port
abbrev pub primary_over : Option (List ℕ) → Option Claim → List (List ℕ) → Option (List ℕ)
primary_over now (Some claim) ports = claimed claim
primary_over now None ports = if_among ports now

-- each the stated one, else the one given here
abbrev pub bond_over : BondOpts → BondEntry → List (List ℕ) → BondOpts
bond_over now e ports = record {
  primary = primary_over now.primary e.primary ports;
  lacp_rate = unwrap_or e.lacp_rate now.lacp_rate;
  hash_policy = unwrap_or e.hash_policy now.hash_policy;
  miimon = unwrap_or e.miimon now.miimon;
  updelay = unwrap_or e.updelay now.updelay;
  downdelay = unwrap_or e.downdelay now.downdelay;
}

abbrev pub bridge_over : BridgeOpts → BridgeEntry → BridgeOpts
bridge_over now e = record {
  stp = unwrap_or e.stp now.stp;
  priority = unwrap_or e.priority now.priority;
  forward_delay = unwrap_or e.forward_delay now.forward_delay;
  hello_time = unwrap_or e.hello_time now.hello_time;
  max_age = unwrap_or e.max_age now.max_age;
  mac_ageing = unwrap_or e.mac_ageing now.mac_ageing;
}

abbrev pub port_over : PortOpts → Option PortEntry → PortOpts
port_over now None = now
port_over now (Some e) = record {
  cost = unwrap_or e.cost now.cost;
  priority = unwrap_or e.priority now.priority;
  hairpin = unwrap_or e.hairpin now.hairpin;
}

-- the options of a bond with these merged ports
abbrev pub merge_bond : Option BondOpts → BondEntry → List (List ℕ) → BondOpts
merge_bond now e ports = bond_over (unwrap_or now default_bond) e ports

abbrev pub merge_bridge : Option BridgeOpts → BridgeEntry → BridgeOpts
merge_bridge now e = bridge_over (unwrap_or now default_bridge) e

abbrev pub merge_port : Option PortOpts → Option PortEntry → PortOpts
merge_port now e = port_over (unwrap_or now default_port) e
