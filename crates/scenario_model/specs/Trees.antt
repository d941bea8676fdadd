-- The hardware list and the two documents of a workload, as trees.
use Rattle.std.specs.Prelude.{◌≡◌, ◌≤◌, ℕ, ◌+◌, ◌%◌, true, List, [], ◌∷◌, ◌++◌, codes, decimal}
use Rattle.std.specs.List.{flat_map}
use Rattle.doc_tree.specs.Shape.{Shape, truth, text, list, shapes_of, is_distinct, levels, has_short_lists}
use Rattle.doc_tree.specs.declared.limits.TheConstants.{MAX_LEVELS}
use Rattle.net_model.specs.declared.Mac.{Mac}
use Rattle.show_core.specs.Fields.{Fields, fields, field, number, each, hardware}
use Rattle.scenario_model.specs.declared.device.Device.{Device}
use Rattle.scenario_model.specs.declared.device.TheConstants.{VLAN_IDS, RULE_TABLE, RAISED_MTU}

-- ---- the names of device 7 and of the two VLANs over it: e7, e7.v and e7.b; that of the bridge over the second ones

abbrev pub base_name : Device → List ℕ
base_name d = codes "e" ++ decimal d.number

abbrev pub routed_name : Device → List ℕ
routed_name d = base_name d ++ codes ".v"

abbrev pub bridged_name : Device → List ℕ
bridged_name d = base_name d ++ codes ".b"

abbrev pub bridge_name : List ℕ
bridge_name = codes "br"

-- ---- its addresses: 10.7.0.1 of the VLAN, 10.7.0.2 behind it, their subnet, and the subnet that is reached through them

abbrev pub own_address : Device → List ℕ
own_address d = codes "10." ++ decimal d.number ++ codes ".0.1"

abbrev pub gateway : Device → List ℕ
gateway d = codes "10." ++ decimal d.number ++ codes ".0.2"

abbrev pub own_subnet : Device → List ℕ
own_subnet d = codes "10." ++ decimal d.number ++ codes ".0.0/24"

abbrev pub far_subnet : Device → List ℕ
far_subnet d = codes "172.16." ++ decimal d.number ++ codes ".0/24"

-- ---- the hardware list

-- 52:54:00:00:00 and the device's number
abbrev pub mac_of : Device → Mac
mac_of d = record { bytes = 82 ∷ 84 ∷ 0 ∷ 0 ∷ 0 ∷ d.number ∷ [] }

abbrev pub device_tree : Device → Shape
device_tree d = fields (field (codes "name") (text (base_name d)) ++ field (codes "mac-address") (hardware (mac_of d)))

abbrev pub hardware_tree : List Device → Shape
hardware_tree ds = fields (field (codes "hardware") (each device_tree ds))

-- ---- the first document: two VLANs over each device, the first with an address, and a bridge over all the second ones; a
-- route over each first one, and a rule for its subnet

abbrev pub vlan_tree : List ℕ → ℕ → Shape
vlan_tree base id = fields (field (codes "base-iface") (text base) ++ field (codes "id") (number id))

abbrev pub address_tree : Device → Shape
address_tree d = fields (field (codes "ip") (text (own_address d)) ++ field (codes "prefix-length") (number 24))

abbrev pub ipv4_tree : Device → Shape
ipv4_tree d = fields (field (codes "enabled") (truth true) ++ field (codes "address") (each address_tree (d ∷ [])))

abbrev pub routed_tree : Device → Shape
routed_tree d = fields (
    field (codes "name") (text (routed_name d))
    ++ field (codes "type") (text (codes "vlan"))
    ++ field (codes "state") (text (codes "up"))
    ++ field (codes "ipv4") (ipv4_tree d)
    ++ field (codes "vlan") (vlan_tree (base_name d) d.id))

abbrev pub bridged_tree : Device → Shape
bridged_tree d = fields (
    field (codes "name") (text (bridged_name d))
    ++ field (codes "type") (text (codes "vlan"))
    ++ field (codes "vlan") (vlan_tree (base_name d) ((d.id + 1) % VLAN_IDS)))

abbrev pub port_tree : Device → Shape
port_tree d = fields (field (codes "name") (text (bridged_name d)))

abbrev pub bridge_tree : List Device → Shape
bridge_tree ds = fields (
    field (codes "name") (text bridge_name)
    ++ field (codes "type") (text (codes "linux-bridge"))
    ++ field (codes "bridge") (fields (field (codes "port") (each port_tree ds))))

-- the two VLANs of a device
abbrev pub vlans : Device → List Shape
vlans d = routed_tree d ∷ bridged_tree d ∷ []

abbrev pub route_tree : Device → Shape
route_tree d = fields (
    field (codes "destination") (text (far_subnet d))
    ++ field (codes "next-hop-interface") (text (routed_name d))
    ++ field (codes "next-hop-address") (text (gateway d))
    ++ field (codes "metric") (number d.metric))

abbrev pub rule_tree : Device → Shape
rule_tree d = fields (
    field (codes "priority") (number d.number)
    ++ field (codes "ip-from") (text (own_subnet d))
    ++ field (codes "route-table") (number RULE_TABLE))

-- what is configured
abbrev pub config : Shape → Shape
config tree = fields (field (codes "config") tree)

abbrev pub first_tree : List Device → Shape
first_tree ds = fields (
    field (codes "interfaces") (list (shapes_of (flat_map vlans ds ++ bridge_tree ds ∷ [])))
    ++ field (codes "routes") (config (each route_tree ds))
    ++ field (codes "route-rules") (config (each rule_tree ds)))

-- ---- the second document: another MTU of each device, and another id of the first VLAN over it

abbrev pub raised_tree : Device → Shape
raised_tree d = fields (field (codes "name") (text (base_name d)) ++ field (codes "mtu") (number RAISED_MTU))

abbrev pub renumbered_tree : Device → Shape
renumbered_tree d = fields (
    field (codes "name") (text (routed_name d))
    ++ field (codes "vlan") (fields (field (codes "id") (number ((d.id + 2) % VLAN_IDS)))))

abbrev pub changes : Device → List Shape
changes d = raised_tree d ∷ renumbered_tree d ∷ []

abbrev pub second_tree : List Device → Shape
second_tree ds = fields (field (codes "interfaces") (list (shapes_of (flat_map changes ds))))

-- ---- what the writers and the readers of documents ask of a tree: the keys of each map differ, there are not too many
-- levels, and lists are short

pub record IsPlain (tree : Shape) : Type 0 where
  pub distinct : is_distinct tree ≡ true
  pub depth : levels tree ≤ MAX_LEVELS
  pub short : has_short_lists tree ≡ true
