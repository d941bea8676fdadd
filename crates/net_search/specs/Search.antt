-- What is looked for in a network, found by looking at each in turn.
use Rattle.std.specs.Prelude.{ℕ, Bool, ◌&&◌, ◌==◌, List, Option, find, option_and_then}
use Rattle.std.specs.declared.cmp.Ordering.{Ordering}
use Rattle.std.specs.Ordering.{nat_cmp, ordering_then}
use Rattle.net_model.specs.Address.{Address, Block}
use Rattle.net_model.specs.Links.{find_link}
use Rattle.net_model.specs.Order.{block_cmp}
use Rattle.net_model.specs.Valid.{same_address, same_block}
use Rattle.net_model.specs.declared.link.Link.{Link}
use Rattle.net_model.specs.declared.route.Route.{Route}

-- the route has this destination, table and metric
abbrev pub has_key : Block → ℕ → ℕ → Route → Bool
has_key dest table metric r = same_block r.dest dest && (r.table == table) && (r.metric == metric)

-- the route of this key
abbrev pub find_route : Block → ℕ → ℕ → List Route → Option Route
find_route dest table metric routes = find (has_key dest table metric) routes

-- how a route is ordered to a key
abbrev pub key_cmp : Block → ℕ → ℕ → Route → Ordering
key_cmp dest table metric r = ordering_then (ordering_then (block_cmp r.dest dest) (nat_cmp r.table table)) (nat_cmp r.metric metric)

-- the block of this address, whatever its length
abbrev pub find_in : Address → List Block → Option Block
find_in addr blocks = find (λ b. same_address b.addr addr) blocks

-- the block of this address on the link of this name
abbrev pub find_address : List ℕ → Address → List Link → Option Block
find_address name addr links = option_and_then (λ l. find_in addr l.addrs) (find_link name links)
