-- Where a route stands with all its fields.
use Rattle.std.specs.Prelude.{◌≡◌, ℕ, ◌<◌, Bool, true, not, List, length, filter, Option, Some, None, find, remove}
use Rattle.std.specs.Option.{option_map_or}
use Rattle.net_model.specs.Valid.{same_key}
use Rattle.net_model.specs.declared.link.Link.{Link}
use Rattle.net_model.specs.declared.route.Route.{Route}
use Rattle.net_model.specs.declared.route_key.RouteKey.{RouteKey}
use Rattle.net_model.specs.Edits.{same_route, stays_on_link}

-- the route stands there: to remove it there removes what has all its fields, and what has its key
pub record IsRouteAt (route : Route) (routes : List Route) (i : ℕ) : Type 0 where
  pub inside : i < length routes
  pub removes : remove routes i ≡ filter (λ r. not (same_route route r)) routes
  pub by_key : remove routes i ≡ filter (λ r. not (same_key route r)) routes

-- the position of the route, or none where no route has all its fields
abbrev pub RoutePosition : Option ℕ → Route → List Route → Type 0
RoutePosition (Some i) route routes = IsRouteAt route routes i
RoutePosition None route routes = routes ≡ filter (λ r. not (same_route route r)) routes

-- a route of this key and device, without a gateway
abbrev pub with_key : RouteKey → List ℕ → Route
with_key key dev = record { dest = key.dest; table = key.table; metric = key.metric; gateway = None; dev = dev }

-- the route of this key, if there is one, stays
abbrev pub key_stays : List ℕ → List Link → List Route → RouteKey → Bool
key_stays name links routes key = option_map_or (stays_on_link name links) (find (same_key (with_key key name)) routes) true
