-- Routes that lean on a subnet.
use Rattle.std.specs.Prelude.{◌≡◌, ℕ, Bool, true, false, not, ◌&&◌, ◌||◌, List}
use Rattle.std.specs.List.{list_all}
use Rattle.std.specs.Option.{option_map_or}
use Rattle.net_model.specs.Name.{same_bytes}
use Rattle.net_model.specs.Address.{Block}
use Rattle.net_model.specs.OnLink.{holds}
use Rattle.net_model.specs.Valid.{route_on_link}
use Rattle.net_model.specs.Edits.{stays_on_link}
use Rattle.net_model.specs.Lists.{NetData}
use Rattle.net_model.specs.declared.link.Link.{Link}
use Rattle.net_model.specs.declared.route.Route.{Route}

-- the route has a gateway, which lies in the subnet
abbrev pub leans_on : Block → Route → Bool
leans_on subnet r = option_map_or (holds subnet) r.gateway false

-- the route is over this link, and its gateway lies in the subnet and isn't on-link there
abbrev pub is_cut_off : Block → Link → Route → Bool
is_cut_off subnet l r = leans_on subnet r && same_bytes r.dev l.name && not (route_on_link l r)

-- each route leans on the subnet, or is of another device than the named one, or on-link there
abbrev pub Leans : Block → List ℕ → NetData → Type 0
Leans subnet name net = list_all (λ r. leans_on subnet r || stays_on_link name net.links r) net.routes ≡ true
