-- Orders in which a base comes before what stands on it.
use Rattle.std.specs.Prelude.{◌≡◌, ℕ, ◌<◌, ◌+◌, ◌-◌, zero, suc, true, List, length, take, Option, None, Some, slice_index_or}
use Rattle.std.specs.Option.{option_map_or}
use Rattle.net_model.specs.Words.{is_among}
use Rattle.net_model.specs.Links.{find_link}
use Rattle.net_model.specs.declared.Link.{Link}
use Rattle.net_model.specs.declared.Kind.{Kind}
use Rattle.net_model.specs.declared.Kind.TheVariants.{Vlan}
use Rattle.net_model.specs.declared.Proto.{Proto}

-- the base of a VLAN
abbrev pub base_link : List Link → Kind → Option Link
base_link links (Vlan base id proto) = find_link base links
base_link links _ = None

-- how many bases are below a link of this kind, within so many steps
abbrev pub depth_within : List Link → ℕ → Kind → ℕ
depth_within links zero kind = 0
depth_within links (suc steps) kind = option_map_or (λ b. 1 + depth_within links steps b.kind) (base_link links kind) 0

-- how many bases are below it
abbrev pub depth : List Link → Kind → ℕ
depth links kind = depth_within links (length links) kind

-- the place of the base of a VLAN
abbrev pub IsBasePlace : List Link → Kind → Option ℕ → Type 0
IsBasePlace links kind None = base_link links kind ≡ None
IsBasePlace links kind (Some i) = (i < length links) × ((d : Link) → base_link links kind ≡ Some (slice_index_or links i d))

-- the link at this place has this depth
abbrev pub IsDepthAt : List Link → ℕ → ℕ → Type 0
IsDepthAt links i n = (d : Link) → n ≡ depth links (slice_index_or links i d).kind

-- what is known at each place is the depth of the link there
pub record AreDepths (links : List Link) (known : List (Option ℕ)) : Type 0 where
  pub each : length known ≡ length links
  pub right : (i n : ℕ) → i < length links → slice_index_or known i None ≡ Some n → IsDepthAt links i n

-- the depth of a link, with its name
abbrev pub by_base : List Link → Link → ℕ × List ℕ
by_base links l = (depth links l.kind, l.name)

-- how far it is from the greatest depth that there can be, with its name
abbrev pub by_top : List Link → Link → ℕ × List ℕ
by_top links l = (length links - depth links l.kind, l.name)

-- the base of each of the names is among those before it
pub record IsBaseFirst (links : List Link) (names : List (List ℕ)) : Type 0 where
  pub before : (k : ℕ) (d : List ℕ) (l : Link) (base : List ℕ) (id : ℕ) (proto : Proto) → k < length names → find_link (slice_index_or names k d) links ≡ Some l
      → l.kind ≡ Vlan base id proto → is_among (take k names) base ≡ true

-- each of the links is named
abbrev pub NamesAll : List Link → List (List ℕ) → Type 0
NamesAll links names = (n : List ℕ) (l : Link) → find_link n links ≡ Some l → is_among names n ≡ true

-- the names of all links as often as there are links, in three orders, of which the second has each base before what stands on it
pub record AreOrders (links : List Link) (names upward downward : List (List ℕ)) : Type 0 where
  pub all : NamesAll links names
  pub all_upward : NamesAll links upward
  pub all_downward : NamesAll links downward
  pub base_first : IsBaseFirst links upward
  pub count : length names ≡ length links
  pub count_upward : length upward ≡ length links
  pub count_downward : length downward ≡ length links
