-- Options of bonds, bridges and ports: defaults, and what they may be.
use Rattle.std.specs.Prelude.{ℕ, Bool, true, false, not, ◌&&◌, ◌||◌, ◌==◌, ◌%◌, nat_le, List, Option, None, is_none}
use Rattle.std.specs.Option.{option_map_or}
use Rattle.net_model.specs.Words.{is_among}
use Rattle.net_model.specs.Links.{ports_of}
use Rattle.net_model.specs.declared.link.Link.{Link}
use Rattle.net_model.specs.declared.link.Kind.{Kind}
use Rattle.net_model.specs.declared.link.Kind.TheVariants.{Bond}
use Rattle.net_model.specs.declared.options.BondMode.{BondMode}
use Rattle.net_model.specs.declared.options.BondMode.TheVariants.{BalanceRr, ActiveBackup, BalanceXor, Broadcast, Ieee8023ad, BalanceTlb, BalanceAlb}
use Rattle.net_model.specs.declared.options.BondOpts.{BondOpts}
use Rattle.net_model.specs.declared.options.BridgeOpts.{BridgeOpts}
use Rattle.net_model.specs.declared.options.PortOpts.{PortOpts}
use Rattle.net_model.specs.declared.options.LacpRate.{LacpRate}
use Rattle.net_model.specs.declared.options.LacpRate.TheVariants.{Slow, Fast}
use Rattle.net_model.specs.declared.options.HashPolicy.{HashPolicy}
use Rattle.net_model.specs.declared.options.HashPolicy.TheVariants.{Layer2}

-- the number of a mode in the Linux bonding documentation
abbrev pub mode_number : BondMode → ℕ
mode_number BalanceRr = 0
mode_number ActiveBackup = 1
mode_number BalanceXor = 2
mode_number Broadcast = 3
mode_number Ieee8023ad = 4
mode_number BalanceTlb = 5
mode_number BalanceAlb = 6

abbrev pub default_bond : BondOpts
default_bond = record { primary = None; lacp_rate = Slow; hash_policy = Layer2; miimon = 0; updelay = 0; downdelay = 0 }

abbrev pub default_bridge : BridgeOpts
default_bridge = record { stp = false; priority = 32768; forward_delay = 15; hello_time = 2; max_age = 20; mac_ageing = 300 }

abbrev pub default_port : PortOpts
default_port = record { cost = 100; priority = 32; hairpin = false }

abbrev pub is_fast : LacpRate → Bool
is_fast Slow = false
is_fast Fast = true

abbrev pub is_layer2 : HashPolicy → Bool
is_layer2 Layer2 = true
is_layer2 _ = false

abbrev pub is_default_bond : BondOpts → Bool
is_default_bond o = is_none o.primary && not (is_fast o.lacp_rate) && is_layer2 o.hash_policy && (o.miimon == 0) && (o.updelay == 0) && (o.downdelay == 0)

abbrev pub is_default_bridge : BridgeOpts → Bool
is_default_bridge o = not o.stp && (o.priority == 32768) && (o.forward_delay == 15) && (o.hello_time == 2) && (o.max_age == 20) && (o.mac_ageing == 300)

abbrev pub is_default_port : PortOpts → Bool
is_default_port o = (o.cost == 100) && (o.priority == 32) && not o.hairpin

-- active-backup, balance-tlb and balance-alb have a primary
abbrev pub takes_primary : BondMode → Bool
takes_primary ActiveBackup = true
takes_primary BalanceTlb = true
takes_primary BalanceAlb = true
takes_primary _ = false

abbrev pub is_802_3ad : BondMode → Bool
is_802_3ad Ieee8023ad = true
is_802_3ad _ = false

-- a primary is a port, and the mode has one
abbrev pub primary_ok : BondMode → Option (List ℕ) → List (List ℕ) → Bool
primary_ok mode primary ports = option_map_or (λ p. is_among ports p && takes_primary mode) primary true

-- both delays are 0, or the monitor's interval isn't 0 and divides both
abbrev pub delays_ok : BondOpts → Bool
delays_ok o = (o.updelay == 0) && (o.downdelay == 0) || not (o.miimon == 0) && (o.updelay % o.miimon == 0) && (o.downdelay % o.miimon == 0)

-- and the fast rate stands only in 802.3ad
abbrev pub bond_ok : BondMode → BondOpts → List (List ℕ) → Bool
bond_ok mode o ports = primary_ok mode o.primary ports && (not (is_fast o.lacp_rate) || is_802_3ad mode) && delays_ok o

-- a bond's options are right for its mode and its ports
abbrev pub bond_fits : List Link → Link → Kind → Bool
bond_fits links l (Bond mode) = bond_ok mode l.bond (ports_of links l.name)
bond_fits links l _ = true

abbrev pub is_within : ℕ → ℕ → ℕ → Bool
is_within low high n = nat_le low n && nat_le n high

-- a forward delay of 2 to 30 seconds, a hello time of 1 to 10, a maximum age of 6 to 40
abbrev pub bridge_in_range : BridgeOpts → Bool
bridge_in_range o = is_within 2 30 o.forward_delay && is_within 1 10 o.hello_time && is_within 6 40 o.max_age

-- a cost of at least 1, a priority of at most 63
abbrev pub port_in_range : PortOpts → Bool
port_in_range o = nat_le 1 o.cost && nat_le o.priority 63
