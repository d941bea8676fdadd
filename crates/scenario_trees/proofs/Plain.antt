-- The trees of a workload are writable.
use Rattle.std.proofs.Common.{◌≡◌, ◌≤◌, ◌+◌, ◌*◌, ◌%◌, ℕ, List, [], ◌∷◌, ◌++◌, length, refl, sym, subst, arith}
use Rattle.std.specs.List.{All, flat_map}
use Rattle.std.proofs.lemmas.List.{length-append}
use Rattle.std.proofs.lemmas.List.Elements.{All-nil, All-cons, All-append}
use Rattle.std.proofs.lemmas.List.FromFn.{length-map-range_with_len}
use Rattle.doc_tree.specs.Shape.{Shape, list, shapes_of}
use Rattle.show_core.specs.Fields.{each}
use Rattle.show_core.proofs.lemmas.Writable.{IsWritable, IsShort, text_writable, whole_writable, truth_writable, none, one, map_writable, trees_writable, each_writable}
use Rattle.scenario_model.specs.declared.Device.{Device}
use Rattle.scenario_model.specs.declared.device.TheConstants.{MAX_DEVICES, VLAN_IDS}
use Rattle.scenario_model.specs.Draws.{device, devices}
use Rattle.scenario_model.specs.Trees.{device_tree, hardware_tree, address_tree, ipv4_tree, vlan_tree, routed_tree, bridged_tree, port_tree, bridge_tree, vlans, route_tree, rule_tree, config, first_tree, raised_tree, renumbered_tree, changes, second_tree, base_name, IsPlain}

-- what is writable at all levels that there may be is plain
plain_of : (s : Shape) → IsWritable 32 s → IsPlain s
plain_of s is = record { distinct = is.distinct; depth = is.depth; short = is.short }

-- two of each, and one more
two_each : (f : Device → List Shape) → ((d : Device) → length (f d) ≡ 2) → (ds : List Device) → length (flat_map f ds) ≡ 2 * length ds
two_each f is [] = refl
two_each f is (d ∷ ds) = omega (arith, length-append (f d) (flat_map f ds), is d, two_each f is ds)

one_each : {n : ℕ} (s : Shape) → IsWritable n s → All (IsWritable n) (s ∷ [])
one_each {n} s is = All-cons (IsWritable n) s [] is (All-nil (IsWritable n))

both_each : {n : ℕ} (s t : Shape) → IsWritable n s → IsWritable n t → All (IsWritable n) (s ∷ t ∷ [])
both_each {n} s t is also = All-cons (IsWritable n) s (t ∷ []) is (one_each t also)

-- those that belong to each of a list
flat_writable : (n : ℕ) (f : Device → List Shape) → ((d : Device) → All (IsWritable n) (f d)) → (ds : List Device) → All (IsWritable n) (flat_map f ds)
flat_writable n f is [] = All-nil (IsWritable n)
flat_writable n f is (d ∷ ds) = All-append (IsWritable n) (f d) (flat_map f ds) (is d) (flat_writable n f is ds)

device_writable : (d : Device) → IsWritable 30 (device_tree d)
device_writable d = map_writable (one text_writable (one text_writable none)) refl

vlan_writable : (base : List ℕ) (id : ℕ) → IsWritable 29 (vlan_tree base id)
vlan_writable base id = map_writable (one text_writable (one whole_writable none)) refl

address_writable : (d : Device) → IsWritable 27 (address_tree d)
address_writable d = map_writable (one text_writable (one whole_writable none)) refl

one_short : (d : Device) → IsShort (d ∷ [])
one_short d = omega arith

ipv4_writable : (d : Device) → IsWritable 29 (ipv4_tree d)
ipv4_writable d = map_writable (one truth_writable (one (each_writable 27 address_tree (d ∷ []) (one_short d) address_writable) none)) refl

routed_writable : (d : Device) → IsWritable 30 (routed_tree d)
routed_writable d = map_writable (one text_writable (one text_writable (one text_writable (one (ipv4_writable d) (one (vlan_writable (base_name d) d.id) none))))) refl

bridged_writable : (d : Device) → IsWritable 30 (bridged_tree d)
bridged_writable d = map_writable (one text_writable (one text_writable (one (vlan_writable (base_name d) ((d.id + 1) % VLAN_IDS)) none))) refl

port_writable : (d : Device) → IsWritable 27 (port_tree d)
port_writable d = map_writable (one text_writable none) refl

route_writable : (d : Device) → IsWritable 29 (route_tree d)
route_writable d = map_writable (one text_writable (one text_writable (one text_writable (one whole_writable none)))) refl

rule_writable : (d : Device) → IsWritable 29 (rule_tree d)
rule_writable d = map_writable (one whole_writable (one text_writable (one whole_writable none))) refl

raised_writable : (d : Device) → IsWritable 30 (raised_tree d)
raised_writable d = map_writable (one text_writable (one whole_writable none)) refl

renumbered_writable : (d : Device) → IsWritable 30 (renumbered_tree d)
renumbered_writable d = map_writable (one text_writable (one (map_writable (one whole_writable none) refl) none)) refl

config_writable : (s : Shape) → IsWritable 30 s → IsWritable 31 (config s)
config_writable s is = map_writable (one is none) refl

-- the trees of few devices
module _ (ds : List Device) (few : length ds ≤ MAX_DEVICES) where
  few_short : IsShort ds
  few_short = omega (arith, few)

  pub hardware_plain : IsPlain (hardware_tree ds)
  hardware_plain = plain_of (hardware_tree ds) (map_writable (one (each_writable 30 device_tree ds few_short device_writable) none) refl)

  bridge_writable : IsWritable 30 (bridge_tree ds)
  bridge_writable = map_writable (one text_writable (one text_writable (one (map_writable (one (each_writable 27 port_tree ds few_short port_writable) none) refl) none))) refl

  interfaces_short : IsShort (flat_map vlans ds ++ bridge_tree ds ∷ [])
  interfaces_short = omega (arith, few, two_each vlans (λ d. refl) ds, length-append (flat_map vlans ds) (bridge_tree ds ∷ []))

  interfaces_writable : IsWritable 31 (list (shapes_of (flat_map vlans ds ++ bridge_tree ds ∷ [])))
  interfaces_writable = trees_writable 30 (flat_map vlans ds ++ bridge_tree ds ∷ []) interfaces_short
      (All-append (IsWritable 30) (flat_map vlans ds) (bridge_tree ds ∷ [])
      (flat_writable 30 vlans (λ d. both_each (routed_tree d) (bridged_tree d) (routed_writable d) (bridged_writable d)) ds)
      (one_each (bridge_tree ds) bridge_writable))

  pub first_plain : IsPlain (first_tree ds)
  first_plain = plain_of (first_tree ds) (map_writable
      (one interfaces_writable
      (one (config_writable (each route_tree ds) (each_writable 29 route_tree ds few_short route_writable))
      (one (config_writable (each rule_tree ds) (each_writable 29 rule_tree ds few_short rule_writable)) none))) refl)

  changes_short : IsShort (flat_map changes ds)
  changes_short = omega (arith, few, two_each changes (λ d. refl) ds)

  pub second_plain : IsPlain (second_tree ds)
  second_plain = plain_of (second_tree ds) (map_writable
      (one (trees_writable 30 (flat_map changes ds) changes_short
      (flat_writable 30 changes (λ d. both_each (raised_tree d) (renumbered_tree d) (raised_writable d) (renumbered_writable d)) ds)) none) refl)

-- so many devices as were asked for
pub device_count : (seed n : ℕ) → length (devices seed n) ≡ n
device_count seed n = length-map-range_with_len (device seed) 1 n

-- the three trees of a workload
pub all_plain : (seed n : ℕ) → n ≤ MAX_DEVICES → (hardware first second : Shape)
    → hardware ≡ hardware_tree (devices seed n) → first ≡ first_tree (devices seed n) → second ≡ second_tree (devices seed n) → IsPlain hardware × IsPlain first × IsPlain second
all_plain seed n few hardware first second h f s =
    let most : length (devices seed n) ≤ MAX_DEVICES = omega (arith, device_count seed n, few) in
    (subst IsPlain (sym h) (hardware_plain (devices seed n) most), subst IsPlain (sym f) (first_plain (devices seed n) most), subst IsPlain (sym s) (second_plain (devices seed n) most))
