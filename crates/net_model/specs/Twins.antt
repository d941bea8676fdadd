-- The keys of VLANs.
use Rattle.std.specs.Prelude.{◌≡◌, ℕ, Bool, true, false, not, ◌&&◌, List, Option, Some, None}
use Rattle.std.specs.List.{list_any}
use Rattle.std.specs.Option.{option_map_or}
use Rattle.std.specs.Ordering.{is_eq, nat_cmp, bool_cmp, ordering_then}
use Rattle.std.specs.declared.cmp.Ordering.{Ordering}
use Rattle.std.specs.BTreeSet.{BTreeSet, contains}
use Rattle.net_model.specs.Order.{name_cmp}
use Rattle.net_model.specs.declared.link.Kind.{Kind}
use Rattle.net_model.specs.declared.link.Kind.TheVariants.{Vlan}
use Rattle.net_model.specs.declared.options.Proto.{Proto}
use Rattle.net_model.specs.declared.options.Proto.TheVariants.{Dot1q, Dot1ad}
use Rattle.net_model.specs.declared.link.Link.{Link}

-- the protocol is 802.1ad
abbrev pub is_dot1ad : Proto → Bool
is_dot1ad Dot1q = false
is_dot1ad Dot1ad = true

-- what VLANs are compared by: base, number, and whether the protocol is 802.1ad
abbrev pub vlan_key : Kind → Option (List ℕ × ℕ × Bool)
vlan_key (Vlan base id proto) = Some (base, id, is_dot1ad proto)
vlan_key _ = None

-- by base, then by number, then by protocol
abbrev pub vlan_cmp : List ℕ × ℕ × Bool → List ℕ × ℕ × Bool → Ordering
vlan_cmp a b = ordering_then (ordering_then (name_cmp a.0 b.0) (nat_cmp a.1 b.1)) (bool_cmp a.2 b.2)

-- the kind is a VLAN with this key
abbrev pub has_key : List ℕ × ℕ × Bool → Kind → Bool
has_key key kind = option_map_or (λ k. is_eq (vlan_cmp k key)) (vlan_key kind) false

-- the set has the keys of the VLANs among the links
abbrev pub HasVlans : BTreeSet (List ℕ × ℕ × Bool) → List Link → Type 0
HasVlans seen links = (key : List ℕ × ℕ × Bool) → contains vlan_cmp seen key ≡ list_any (λ l. has_key key l.kind) links

-- the set has lost the keys that pass, and no other
abbrev pub Loses : (List ℕ × ℕ × Bool → Bool) → BTreeSet (List ℕ × ℕ × Bool) → BTreeSet (List ℕ × ℕ × Bool) → Type 0
Loses test old new = (key : List ℕ × ℕ × Bool) → contains vlan_cmp new key ≡ (contains vlan_cmp old key && not (test key))
