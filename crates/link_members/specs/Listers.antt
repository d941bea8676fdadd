-- Who lists a port.
use Rattle.std.specs.Prelude.{◌≡◌, ℕ, Bool, false, not, ◌&&◌, List, [], Option, find, position}
use Rattle.std.specs.List.{list_any}
use Rattle.std.specs.Option.{option_map_or, unwrap_or}
use Rattle.std.specs.BTreeMap.{BTreeMap, get}
use Rattle.std.specs.BTreeSet.{BTreeSet, contains}
use Rattle.net_model.specs.Name.{same_bytes}
use Rattle.net_model.specs.Order.{name_cmp}
use Rattle.merge_model.specs.Members.{Member}
use Rattle.merge_model.specs.Controllers.{stated_ports, lists}

-- the map has, for each name, the place of the first member whose stated list names it
abbrev pub HasFirsts : List Member → BTreeMap (List ℕ) ℕ → Type 0
HasFirsts ms firsts = (q : List ℕ) → get name_cmp firsts q ≡ position (λ m. lists m q) ms

-- the first member whose stated list names the link has another name than this
abbrev pub is_rival : List Member → List ℕ → List ℕ → Bool
is_rival ms q name = option_map_or (λ f. not (same_bytes f.name name)) (find (λ m. lists m q) ms) false

-- the member's list names the link, and the first whose list does has another name
abbrev pub rivals : List Member → List ℕ → Member → Bool
rivals ms q c = lists c q && is_rival ms q c.name

-- the set has the names that the lists of members of different names have
abbrev pub HasContested : List Member → BTreeSet (List ℕ) → Type 0
HasContested ms contested = (q : List ℕ) → contains name_cmp contested q ≡ list_any (rivals ms q) ms

-- the names of the member's stated list, none where no list is stated
abbrev pub port_names : Member → List (List ℕ)
port_names m = unwrap_or (stated_ports m) []

-- the place of the link in the member's stated list
abbrev pub port_place : List ℕ → Member → Option ℕ
port_place q c = position (λ n. same_bytes n q) (port_names c)
