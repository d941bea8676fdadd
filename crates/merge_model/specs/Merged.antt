-- The merged links: one rule for each field.
use Rattle.std.specs.Prelude.{ℕ, Bool, true, ◌&&◌, ◌||◌, min, List, length, map, Option, Some, None, if◌then◌else◌, zero, suc}
use Rattle.std.specs.Option.{option_map, option_or, option_and_then, unwrap_or}
use Rattle.net_model.specs.Hardware.{virtual_mac}
use Rattle.net_model.specs.declared.limits.TheConstants.{DEFAULT_MTU}
use Rattle.net_model.specs.declared.Mac.{Mac}
use Rattle.net_model.specs.declared.Link.{Link}
use Rattle.merge_model.specs.Stated.{is_absent, is_stated_up}
use Rattle.merge_model.specs.Kinds.{base_of, permanent_of}
use Rattle.merge_model.specs.Members.{Member, find_member}
use Rattle.merge_model.specs.Lifted.{is_unstated, was_up}
use Rattle.merge_model.specs.LinkOptions.{bond_of, bridge_of, port_of}
use Rattle.merge_model.specs.Addresses.{addrs_of}

-- the member that is a VLAN's base
abbrev pub base_member : List Member → Member → Option Member
base_member ms m = option_and_then (λ base. find_member base ms) (base_of m.kind)

-- a field by the rule that gives it from the member and the same field of its base, following the chain of bases for so
-- many steps
abbrev pub down_bases : {X : Type 0} → (Member → Option X → X) → List Member → ℕ → Member → X
down_bases rule ms zero m = rule m None
down_bases rule ms (suc steps) m = rule m (option_map (down_bases rule ms steps) (base_member ms m))

-- where there is no cycle, no chain of bases is longer than the list
abbrev pub by_bases : {X : Type 0} → (Member → Option X → X) → List Member → Member → X
by_bases rule ms m = down_bases rule ms (length ms) m

-- up: stated up, or lifted, or unstated and up before and, for a VLAN, over a base that is up
abbrev pub up_over : Member → Option Bool → Bool
up_over m below = is_stated_up m.wish || m.lifted || (is_unstated m && was_up m && unwrap_or below true)

-- an Ethernet link that is stated absent has 1500
abbrev pub stated_mtu : Member → Option ℕ
stated_mtu m = if is_absent m.wish then Some DEFAULT_MTU else option_and_then (λ e. e.mtu) m.entry

-- a new VLAN has that of its base, another VLAN the smaller of its current one and that of its base; any other link has
-- its current one, and a new one 1500
abbrev pub unstated_mtu : Option ℕ → Option ℕ → ℕ
unstated_mtu None below = unwrap_or below DEFAULT_MTU
unstated_mtu (Some now) None = now
unstated_mtu (Some now) (Some below) = min now below

abbrev pub mtu_over : Member → Option ℕ → ℕ
mtu_over m below = unwrap_or (stated_mtu m) (unstated_mtu (option_map (λ l. l.mtu) m.old) below)

-- an Ethernet link that is stated absent has its permanent MAC
abbrev pub stated_mac : Member → Option Mac
stated_mac m = if is_absent m.wish then permanent_of m.kind else option_and_then (λ e. e.mac) m.entry

-- the stated one, else the current one, else for a new VLAN that of its base, else the one made from the name
abbrev pub mac_over : Member → Option Mac → Mac
mac_over m below = unwrap_or (option_or (stated_mac m) (option_map (λ l. l.mac) m.old)) (unwrap_or below (virtual_mac m.name))

abbrev pub is_up : List Member → Member → Bool
is_up ms m = by_bases up_over ms m

abbrev pub merged_link : List Member → Member → Link
merged_link ms m = record {
  name = m.name;
  kind = m.kind;
  up = is_up ms m;
  mtu = by_bases mtu_over ms m;
  mac = by_bases mac_over ms m;
  controller = m.controller;
  bond = bond_of ms m m.kind;
  bridge = bridge_of m m.kind;
  port = port_of ms m;
  addrs = addrs_of ms m (is_up ms m);
}

-- by rank
abbrev pub merged_links : List Member → List Link
merged_links ms = map (merged_link ms) ms
