-- A primary is one of its bond's ports.
use Rattle.std.proofs.Common.{◌≡◌, ℕ, true, false, not, ◌&&◌, ◌||◌, ◌==◌, List, Option, Some, None, refl, sym, ap, ◌∙◌}
use Rattle.std.specs.Prelude.{is_none}
use Rattle.std.specs.List.{list_all}
use Rattle.std.specs.Option.{option_map_or}
use Rattle.net_model.specs.Name.{same_bytes}
use Rattle.net_model.specs.Words.{is_among}
use Rattle.net_model.specs.Links.{find_link, is_named, is_bond, is_port_of, ports_of}
use Rattle.net_model.specs.Options.{primary_ok, takes_primary, is_fast, is_802_3ad, is_layer2, delays_ok}
use Rattle.net_model.specs.Edits.{has_primary, has_primary_port, is_free_but_for}
use Rattle.net_model.specs.NetData.{NetData, IsNet}
use Rattle.net_model.specs.declared.link.Link.{Link}
use Rattle.net_model.specs.declared.link.Kind.{Kind}
use Rattle.net_model.specs.declared.link.Kind.TheVariants.{Ethernet, Bond, Bridge, Vlan, Vrf, Dummy, Veth}
use Rattle.net_model.specs.declared.options.BondMode.{BondMode}
use Rattle.net_model.proofs.lemmas.Truth.{and_left, or_right}
use Rattle.net_model.proofs.lemmas.Found.{one_name, itself, names_differ-rises}
use Rattle.net_model.proofs.lemmas.Grounded.{found_named}
use Rattle.net_model.proofs.lemmas.FactsHold.{facts}
use Rattle.net_model.proofs.lemmas.ByName.{or_left, by_name, passing_found}
use Rattle.net_model.proofs.lemmas.Ports.{among_ports}

bond_of : (k : Kind) → is_bond k ≡ true → (mode : BondMode) × (k ≡ Bond mode)
bond_of (Bond mode) h = (mode, refl)
bond_of (Ethernet permanent) h = absurd cc
bond_of Bridge h = absurd cc
bond_of (Vlan base id proto) h = absurd cc
bond_of (Vrf table) h = absurd cc
bond_of Dummy h = absurd cc
bond_of (Veth peer) h = absurd cc

none_there : (o : Option (List ℕ)) → is_none o ≡ true → (port : List ℕ) → option_map_or (λ n. same_bytes n port) o false ≡ true → ⊥
none_there None h port e = absurd cc
none_there (Some n) h port e = absurd cc

-- the primary is among the ports
among : (mode : BondMode) (o : Option (List ℕ)) (ports : List (List ℕ)) (port : List ℕ) → primary_ok mode o ports ≡ true → option_map_or (λ n. same_bytes n port) o false ≡ true → is_among ports port ≡ true
among mode None ports port h e = absurd cc
among mode (Some n) ports port h e = ap (is_among ports) (sym (one_name n port e)) ∙ and_left (is_among ports n) (takes_primary mode) h

-- a bond's primary is right for its mode and its ports
bond_primary : (net : NetData) → IsNet net → (l : Link) → find_link l.name net.links ≡ Some l → is_bond l.kind ≡ true → (mode : BondMode) × (primary_ok mode l.bond.primary (ports_of net.links l.name) ≡ true)
bond_primary net is l found b =
    let mode = bond_of l.kind b in
    let fits = ((facts net is).link l.name l found).bond_right mode.0 mode.1 in (
      mode.0,
      and_left (primary_ok mode.0 l.bond.primary (ports_of net.links l.name)) (not (is_fast l.bond.lacp_rate) || is_802_3ad mode.0)
          (and_left (primary_ok mode.0 l.bond.primary (ports_of net.links l.name) && (not (is_fast l.bond.lacp_rate) || is_802_3ad mode.0)) (delays_ok l.bond) fits),
    )

-- and a link that is no bond has none
no_primary : (net : NetData) → IsNet net → (l : Link) → find_link l.name net.links ≡ Some l → is_bond l.kind ≡ false → is_none l.bond.primary ≡ true
no_primary net is l found b =
    let unused = ((facts net is).link l.name l found).bond_unused b in
    let u4 = and_left (is_none l.bond.primary && not (is_fast l.bond.lacp_rate) && is_layer2 l.bond.hash_policy && (l.bond.miimon == 0) && (l.bond.updelay == 0)) (l.bond.downdelay == 0) unused in
    let u3 = and_left (is_none l.bond.primary && not (is_fast l.bond.lacp_rate) && is_layer2 l.bond.hash_policy && (l.bond.miimon == 0)) (l.bond.updelay == 0) u4 in
    let u2 = and_left (is_none l.bond.primary && not (is_fast l.bond.lacp_rate) && is_layer2 l.bond.hash_policy) (l.bond.miimon == 0) u3 in
    let u1 = and_left (is_none l.bond.primary && not (is_fast l.bond.lacp_rate)) (is_layer2 l.bond.hash_policy) u2 in
    and_left (is_none l.bond.primary) (not (is_fast l.bond.lacp_rate)) u1

-- where there is a primary, it is among the ports
one_of_ports : (mode : BondMode) (o : Option (List ℕ)) (ports : List (List ℕ)) → primary_ok mode o ports ≡ true → option_map_or (is_among ports) o true ≡ true
one_of_ports mode None ports h = refl
one_of_ports mode (Some p) ports h = and_left (is_among ports p) (takes_primary mode) h

-- where there is none, nothing is asked of the ports
none_asked : (o : Option (List ℕ)) (ports : List (List ℕ)) → is_none o ≡ true → option_map_or (is_among ports) o true ≡ true
none_asked None ports h = refl
none_asked (Some p) ports h = absurd cc

-- each primary of a network is one of its bond's ports
pub primaries : (net : NetData) → IsNet net → list_all (has_primary_port net.links) net.links ≡ true
primaries net is = by_name (has_primary_port net.links) net.links (names_differ-rises net.links is.in_order.links) (λ n l found.
    let own : find_link l.name net.links ≡ Some l = ap (λ m. find_link m net.links) (found_named net.links n l found) ∙ found in
    elim (is_bond l.kind) as (λ v. is_bond l.kind ≡ v → has_primary_port net.links l ≡ true) [
      | true ↦ λ b. let right = bond_primary net is l own b in one_of_ports right.0 l.bond.primary (ports_of net.links l.name) right.1
      | false ↦ λ b. none_asked l.bond.primary (ports_of net.links l.name) (no_primary net is l own b)
    ] refl)

module _ (net : NetData) (is : IsNet net) (port controller : List ℕ) (owns : option_map_or (λ l. l.controller) (find_link port net.links) None ≡ Some controller) where
  -- the controller of the port that is found
  owner : (p : Link) → find_link port net.links ≡ Some p → p.controller ≡ Some controller
  owner p found = sym (ap (λ (o : Option Link). option_map_or (λ l. l.controller) o None) found) ∙ owns

  same_owner : (p : Link) (n : List ℕ) → p.controller ≡ Some controller → is_port_of n p ≡ true → n ≡ controller
  same_owner p n e h = sym (one_name controller n (sym (ap (λ o. option_map_or (λ c. same_bytes c n) o false) e) ∙ h))

  -- a link with the port as its primary is the controller
  pub held : (l : Link) → find_link l.name net.links ≡ Some l → has_primary port l ≡ true → is_named controller l ≡ true
  held l found has = elim (is_bond l.kind) as (λ v. is_bond l.kind ≡ v → is_named controller l ≡ true) [
    | true ↦ λ b.
        let right = bond_primary net is l found b in
        let p = passing_found (is_port_of l.name) net.links port (names_differ-rises net.links is.in_order.links) (sym (among_ports net.links l.name port) ∙ among right.0 l.bond.primary (ports_of net.links l.name) port right.1 has) in
        ap (same_bytes l.name) (sym (same_owner p.0 l.name (owner p.0 p.1) p.2)) ∙ itself l.name
    | false ↦ λ b. absurd (none_there l.bond.primary (no_primary net is l found b) port has)
  ] refl

  pub free_but_for : list_all (is_free_but_for port controller) net.links ≡ true
  free_but_for = by_name (is_free_but_for port controller) net.links (names_differ-rises net.links is.in_order.links) (λ n l found.
      let own : find_link l.name net.links ≡ Some l = ap (λ m. find_link m net.links) (found_named net.links n l found) ∙ found in
      elim (has_primary port l) as (λ v. has_primary port l ≡ v → (is_named port l || is_named controller l || not v) ≡ true) [
        | true ↦ λ e. or_left (is_named port l || is_named controller l) false (or_right (is_named port l) (is_named controller l) (held l own e))
        | false ↦ λ e. or_right (is_named port l || is_named controller l) true refl
      ] refl)
