-- What edits make of the lists of a network.
use Rattle.std.specs.Prelude.{ℕ, Bool, true, false, not, ◌&&◌, ◌||◌, List, map, filter, Option, Some, None, is_some, if◌then◌else◌}
use Rattle.std.specs.Option.{option_map_or, option_eq}
use Rattle.net_model.specs.Name.{same_bytes}
use Rattle.net_model.specs.Address.{Block}
use Rattle.net_model.specs.Words.{put, is_among, is_empty}
use Rattle.net_model.specs.Order.{block_cmp}
use Rattle.net_model.specs.Links.{is_named, named_passes, ports_of}
use Rattle.net_model.specs.Options.{default_port}
use Rattle.net_model.specs.Valid.{same_address, same_block, same_key, route_on_link}
use Rattle.net_model.specs.Lists.{NetData}
use Rattle.net_model.specs.declared.link.Link.{Link}
use Rattle.net_model.specs.declared.options.BondOpts.{BondOpts}
use Rattle.net_model.specs.declared.options.PortOpts.{PortOpts}
use Rattle.net_model.specs.declared.route.Route.{Route}

-- the link, changed where it is the named one
abbrev pub changed : List ℕ → (Link → Link) → Link → Link
changed name change l = if is_named name l then change l else l

-- the links, of which the named one is changed
abbrev pub edit_link : List ℕ → (Link → Link) → List Link → List Link
edit_link name change links = map (changed name change) links

-- the port of this controller, with default options
abbrev pub attached : List ℕ → Link → Link
attached controller l = record l { controller = Some controller; port = default_port }

abbrev pub let_go : Link → Link
let_go l = record l { controller = None; port = default_port }

-- the name, unless it is of what goes
abbrev pub unless_gone : (List ℕ → Bool) → Option (List ℕ) → Option (List ℕ)
unless_gone goes None = None
unless_gone goes (Some name) = if goes name then None else Some name

-- a bond whose primary goes has none
abbrev pub primary_freed : (List ℕ → Bool) → BondOpts → BondOpts
primary_freed goes o = record o { primary = unless_gone goes o.primary }

-- the port has no controller and default options, and no link has it as its primary
abbrev pub detached : List ℕ → Link → Link
detached port l = record (changed port let_go l) { bond = primary_freed (λ n. same_bytes n port) l.bond }

-- the link has the port as its primary
abbrev pub has_primary : List ℕ → Link → Bool
has_primary port l = option_map_or (λ n. same_bytes n port) l.bond.primary false

-- the link is the port, or this controller, or hasn't the port as its primary
abbrev pub is_free_but_for : List ℕ → List ℕ → Link → Bool
is_free_but_for port controller l = is_named port l || is_named controller l || not (has_primary port l)

-- the link has no primary, or one of its own ports
abbrev pub has_primary_port : List Link → Link → Bool
has_primary_port links l = option_map_or (is_among (ports_of links l.name)) l.bond.primary true

-- the named link has ports or a controller: where it has neither, it is no link's controller and no bond's primary
abbrev pub may_be_named : List Link → List ℕ → Bool
may_be_named links name = not (is_empty (ports_of links name)) || named_passes (λ l. is_some l.controller) links name

-- a port whose controller goes gets default options
abbrev pub port_freed : (List ℕ → Bool) → Link → PortOpts
port_freed goes l = if option_map_or goes l.controller false then default_port else l.port

-- the link, which names none of those that go
abbrev pub freed : (List ℕ → Bool) → Link → Link
freed goes l = record l { controller = unless_gone goes l.controller; port = port_freed goes l; bond = primary_freed goes l.bond }

-- the links that don't go, and the routes whose device doesn't
abbrev pub without : (List ℕ → Bool) → NetData → NetData
without goes net = record net { links = map (freed goes) (filter (λ l. not (goes l.name)) net.links); routes = filter (λ r. not (goes r.dev)) net.routes }

-- all fields are equal
abbrev pub same_route : Route → Route → Bool
same_route a b = same_key a b && option_eq same_address a.gateway b.gateway && same_bytes a.dev b.dev

-- the route is of another device, or its gateway is on-link at the named one of these links
abbrev pub stays_on_link : List ℕ → List Link → Route → Bool
stays_on_link name links r = not (same_bytes r.dev name) || named_passes (λ l. route_on_link l r) links name

-- the link with one address more, which is put into its place
abbrev pub address_put : Block → Link → Link
address_put block l = record l { addrs = put block_cmp block l.addrs }

-- the link without the address with that length
abbrev pub address_removed : Block → Link → Link
address_removed block l = record l { addrs = filter (λ b. not (same_block block b)) l.addrs }

-- the link down, without its IPv6 addresses
abbrev pub taken_down : Link → Link
taken_down l = record l { up = false; addrs = filter (λ b. not b.addr.v6) l.addrs }
