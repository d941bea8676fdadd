-- The connected subnets of links, and an index of them.
use Rattle.std.specs.Prelude.{◌≡◌, ℕ, ◌-◌, ◌/◌, ◌^◌, Bool, ◌&&◌, ◌==◌, List, map}
use Rattle.std.specs.List.{list_any}
use Rattle.std.specs.Ordering.{bool_cmp, nat_cmp, ordering_then}
use Rattle.std.specs.declared.cmp.Ordering.{Ordering}
use Rattle.std.specs.BTreeSet.{BTreeSet, contains}
use Rattle.net_model.specs.Name.{same_bytes}
use Rattle.net_model.specs.Words.{bool_eq}
use Rattle.net_model.specs.Address.{Address, max_len}
use Rattle.net_model.specs.Order.{name_cmp}
use Rattle.net_model.specs.declared.Link.{Link}

-- a device, the family of an address, the length of its prefix, and its leading bits
abbrev pub Connected : Type 0
Connected = List ℕ × Bool × ℕ × ℕ

-- the subnet of this length that the address is in, at this device
abbrev pub connected : List ℕ → Address → ℕ → Connected
connected dev a len = (dev, a.v6, len, a.bits / 2 ^ (max_len a.v6 - len))

-- the subnets of the addresses of a link
abbrev pub connected_of : Link → List Connected
connected_of l = map (λ b. connected l.name b.addr b.len) l.addrs

abbrev pub connected_cmp : Connected → Connected → Ordering
connected_cmp a b = ordering_then (ordering_then (ordering_then (name_cmp a.0 b.0) (bool_cmp a.1 b.1)) (nat_cmp a.2 b.2)) (nat_cmp a.3 b.3)

abbrev pub same_connected : Connected → Connected → Bool
same_connected a b = same_bytes a.0 b.0 && bool_eq a.1 b.1 && (a.2 == b.2) && (a.3 == b.3)

-- both have the same length
abbrev pub alike : Connected → Connected → Bool
alike a b = a.2 == b.2

-- the subnet of a gateway at a device that is as long as this one
abbrev pub narrowed : Connected → List ℕ × Address → Connected
narrowed s x = connected x.0 x.1 s.2

-- the lengths of these are those of the subnets
abbrev pub HasLengths : List Connected → List Connected → Type 0
HasLengths lengths ks = (q : Connected) → list_any (λ s. alike s q) lengths ≡ list_any (λ k. alike k q) ks

-- the set has the subnets
abbrev pub HasConnected : BTreeSet Connected → List Connected → Type 0
HasConnected set ks = (q : Connected) → contains connected_cmp set q ≡ list_any (λ k. same_connected k q) ks
