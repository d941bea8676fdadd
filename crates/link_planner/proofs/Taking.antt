-- What must hold where links are taken out of a network, and of the names that go.
use Rattle.std.proofs.Common.{◌≡◌, ℕ, true, false, List, [], ◌∷◌, Option, Some, None, Less, refl, ap, ◌∙◌}
use Rattle.std.specs.List.{list_all, AllByRecursion}
use Rattle.std.specs.List.Sorted.{IsStrictlySortedBy}
use Rattle.std.specs.Option.{option_map_or}
use Rattle.std.specs.Ordering.{is_lt}
use Rattle.std.proofs.lemmas.Map.Keys.{sorted_head, sorted_tail}
use Rattle.net_model.specs.Name.{same_bytes}
use Rattle.net_model.specs.Words.{rises, is_among}
use Rattle.net_model.specs.Order.{name_cmp}
use Rattle.net_model.specs.Links.{find_link, is_port_of, ports_of}
use Rattle.net_model.specs.Valid.{each_base_stands, vlans_differ}
use Rattle.net_model.specs.Edits.{has_primary_port}
use Rattle.net_model.specs.NetData.{NetData, IsNet}
use Rattle.net_model.specs.declared.link.Link.{Link}
use Rattle.net_model.proofs.lemmas.AllParts.{all_parts}
use Rattle.net_model.proofs.lemmas.ByName.{by_name, found_passing}
use Rattle.net_model.proofs.lemmas.Found.{itself, names_differ-rises}
use Rattle.net_model.proofs.lemmas.Grounded.{found_named}
use Rattle.net_model.proofs.lemmas.Ports.{among_ports}
use Rattle.net_model.proofs.lemmas.Truth.{and_both, and_right}
use Rattle.link_planner.proofs.Detaching.{primary_port}

-- no two links of a network are twins
pub twins : (net : NetData) → IsNet net → vlans_differ net.links ≡ true
twins net is = and_right (each_base_stands net.links) (vlans_differ net.links) (all_parts net is.valid).bases

-- each primary is one of its bond's ports
pub primaries : (net : NetData) → IsNet net → list_all (has_primary_port net.links) net.links ≡ true
primaries net is = by_name (has_primary_port net.links) net.links (names_differ-rises net.links is.in_order.links) (λ n l found. of n l found l.bond.primary refl)
  where
    of : (n : List ℕ) (l : Link) → find_link n net.links ≡ Some l → (o : Option (List ℕ)) → l.bond.primary ≡ o → option_map_or (is_among (ports_of net.links l.name)) o true ≡ true
    of n l found None e = refl
    of n l found (Some port) e =
        let own : find_link l.name net.links ≡ Some l = ap (λ m. find_link m net.links) (found_named net.links n l found) ∙ found in
        let p = primary_port net is l.name port l own e in
        among_ports net.links l.name port ∙ found_passing (is_port_of l.name) net.links port p.0 p.1 (ap (λ o. option_map_or (λ c. same_bytes c l.name) o false) p.2 ∙ itself l.name)

all_after : (k : List ℕ) (ks : List (List ℕ)) → AllByRecursion (λ m. name_cmp k m ≡ Less) ks → list_all (λ m. is_lt (name_cmp k m)) ks ≡ true
all_after k [] h = refl
all_after k (m ∷ ms) h = and_both (is_lt (name_cmp k m)) (list_all (λ q. is_lt (name_cmp k q)) ms) (ap is_lt h.0) (all_after k ms h.1)

-- the names of an ordered set rise
pub names_rise : (ks : List (List ℕ)) → IsStrictlySortedBy name_cmp ks → rises name_cmp ks ≡ true
names_rise [] h = refl
names_rise (k ∷ ks) h = and_both (list_all (λ m. is_lt (name_cmp k m)) ks) (rises name_cmp ks) (all_after k ks (sorted_head name_cmp k ks h)) (names_rise ks (sorted_tail name_cmp k ks h))
