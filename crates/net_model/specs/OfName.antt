-- What belongs to a name in the lists of a network.
use Rattle.std.specs.Prelude.{ℕ, List, map, filter}
use Rattle.net_model.specs.Name.{same_bytes}
use Rattle.net_model.specs.Dependence.{has_base}
use Rattle.net_model.specs.declared.link.Link.{Link}
use Rattle.net_model.specs.declared.route.Route.{Route}
use Rattle.net_model.specs.declared.route_key.RouteKey.{RouteKey}

-- the names of the VLANs directly over the base, in the order of the links
abbrev pub over : List Link → List ℕ → List (List ℕ)
over links base = map (λ (l : Link). l.name) (filter (λ l. has_base l.kind base) links)

abbrev pub key_of : Route → RouteKey
key_of r = record { dest = r.dest; table = r.table; metric = r.metric }

-- the keys of the device's routes, in the order of the routes
abbrev pub routes_of : List Route → List ℕ → List RouteKey
routes_of routes dev = map key_of (filter (λ r. same_bytes r.dev dev) routes)
