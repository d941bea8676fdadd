-- Sets of routes and of their keys.
use Rattle.std.specs.Prelude.{◌≡◌, ℕ, false, not, ◌&&◌, List}
use Rattle.std.specs.List.{list_any}
use Rattle.std.specs.Option.{option_map_or, option_cmp}
use Rattle.std.specs.Ordering.{nat_cmp, ordering_then}
use Rattle.std.specs.declared.cmp.Ordering.{Ordering}
use Rattle.std.specs.BTreeMap.{BTreeMap, get}
use Rattle.std.specs.BTreeSet.{BTreeSet, contains}
use Rattle.net_model.specs.Address.{Block}
use Rattle.net_model.specs.Order.{name_cmp, address_cmp, block_cmp}
use Rattle.net_model.specs.Valid.{same_key}
use Rattle.net_model.specs.declared.Route.{Route}
use Rattle.merge_model.specs.Routes.{same_route}

-- destination, table and metric
abbrev pub key_of : Route → Block × ℕ × ℕ
key_of r = (r.dest, r.table, r.metric)

abbrev pub key_cmp : Block × ℕ × ℕ → Block × ℕ × ℕ → Ordering
key_cmp a b = ordering_then (ordering_then (block_cmp a.0 b.0) (nat_cmp a.1 b.1)) (nat_cmp a.2 b.2)

-- by all fields in their order
abbrev pub whole_cmp : Route → Route → Ordering
whole_cmp a b = ordering_then (block_cmp a.dest b.dest) (ordering_then (nat_cmp a.table b.table) (ordering_then (nat_cmp a.metric b.metric) (ordering_then (option_cmp address_cmp a.gateway b.gateway) (name_cmp a.dev b.dev))))

-- the set has the keys of the routes
abbrev pub HasKeys : BTreeSet (Block × ℕ × ℕ) → List Route → Type 0
HasKeys keys routes = (q : Route) → contains key_cmp keys (key_of q) ≡ list_any (same_key q) routes

-- the set has the routes
abbrev pub HasRoutes : BTreeSet Route → List Route → Type 0
HasRoutes seen routes = (q : Route) → contains whole_cmp seen q ≡ list_any (λ other. same_route other q) routes

-- the map has the first route of each key, and all routes of a key are equal to it
abbrev pub HasFirsts : BTreeMap (Block × ℕ × ℕ) Route → List (ℕ × Route) → Type 0
HasFirsts firsts seen = (q : Route) → list_any (λ s. same_key s.1 q && not (same_route s.1 q)) seen ≡ option_map_or (λ f. not (same_route f q)) (get key_cmp firsts (key_of q)) false
