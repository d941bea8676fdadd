-- Rules 18 to 20 of the merge, which look at the stated routes.
use Rattle.std.specs.Prelude.{ℕ, ◌+◌, not, ◌&&◌, List, [], ◌∷◌, Option, find}
use Rattle.std.specs.Option.{option_map_or}
use Rattle.net_model.specs.Links.{named_passes}
use Rattle.net_model.specs.Valid.{same_key, route_stands}
use Rattle.net_model.specs.declared.Link.{Link}
use Rattle.net_model.specs.declared.Route.{Route}
use Rattle.document_model.specs.declared.RouteEntry.{RouteEntry}
use Rattle.document_model.specs.declared.Place.{Place}
use Rattle.merge_model.specs.Routes.{stated_route, same_route}
use Rattle.merge_model.specs.Places.{at_route, first_second}

-- the stated routes, each with the position of its entry; the first entry has this position
abbrev pub stated_at : ℕ → List RouteEntry → List (ℕ × Route)
stated_at at [] = []
stated_at at (e ∷ es) = option_map_or (λ r. (at, r) ∷ stated_at (at + 1) es) (stated_route e) (stated_at (at + 1) es)

-- 18: a stated route's device isn't in the merged network, or isn't up
abbrev pub route_device : List Link → List RouteEntry → Option Place
route_device links entries = at_route (find (λ s. not (named_passes (λ l. l.up) links s.1.dev)) (stated_at 0 entries))

-- 19: a stated route's gateway isn't on-link
abbrev pub route_gateway : List Link → List RouteEntry → Option Place
route_gateway links entries = at_route (find (λ s. not (route_stands links s.1)) (stated_at 0 entries))

-- 20: a stated route has the key of an earlier stated route and isn't equal to it; the place is the later one
abbrev pub route_twin : List RouteEntry → Option Place
route_twin entries = at_route (first_second (λ a b. same_key a.1 b.1 && not (same_route a.1 b.1)) [] (stated_at 0 entries))
