-- Entries of routes.
use Rattle.std.proofs.Common.{◌≡◌, ℕ, ◌||◌, true, List, ◌++◌, codes, Option, Some, None, IfSome, Ok, refl}
use Rattle.std.specs.List.{list_any}
use Rattle.std.proofs.lemmas.Bool.{and_parts}
use Rattle.net_model.specs.Address.{Address, Block, IsAddress}
use Rattle.net_model.specs.OnLink.{is_link_local, holds}
use Rattle.net_model.specs.Valid.{route_on_link}
use Rattle.net_model.specs.Words.{bool_eq}
use Rattle.net_model.specs.declared.link.Link.{Link}
use Rattle.net_model.specs.declared.route.Route.{Route}
use Rattle.net_search.specs.Ranges.{RouteRanges}
use Rattle.net_text.specs.AddrText.{addr_text, prefix_text}
use Rattle.doc_tree.specs.Shape.{text}
use Rattle.show_core.specs.Fields.{fields, field, field_of}
use Rattle.show_core.specs.Fields as show
use Rattle.show_core.specs.Network.{route_tree}
use Rattle.tree_schema.specs.Reading.{given}
use Rattle.tree_schema.specs.Values.{name, unless_empty, unless_minus_one}
use Rattle.route_schema.specs.Routes.{route}
use Rattle.route_schema.specs.Words.{subnet, table}
use Rattle.route_schema.specs.Words as schema
use Rattle.shown_model.specs.Shown.{shown_route}
use Rattle.shown_reading.proofs.Prefixes.{gateway_reads, subnet_reads, table_reads}
use Rattle.shown_reading.proofs.Values.{counted_reads, name_reads}

-- a route by what is printed of its destination
record Printed : Type 0 where
  written : List ℕ
  dest : Block
  dev : List ℕ
  metric : ℕ
  table : ℕ

record AreRead (p : Printed) : Type 0 where
  dest : subnet (text p.written) ≡ Ok p.dest
  dev : name (text p.dev) ≡ Ok p.dev
  metric : unless_minus_one (show.number p.metric) ≡ Ok (Some p.metric)
  table : table (show.number p.table) ≡ Ok p.table

abbrev route_of : Printed → Option Address → Route
route_of p gateway = record { dest = p.dest; table = p.table; metric = p.metric; gateway = gateway; dev = p.dev }

direct_reads : (p : Printed) → AreRead p → route (fields (field (codes "destination") (text p.written) ++ field (codes "next-hop-interface") (text p.dev) ++ field (codes "metric") (show.number p.metric) ++ field (codes "table-id") (show.number p.table))) ≡ given (Some (shown_route (route_of p None)))
direct_reads p r = rw (r.dest, r.dev, r.metric, r.table) refl

through_reads : (p : Printed) (t : List ℕ) (a : Address) → AreRead p → unless_empty schema.address (text t) ≡ Ok (Some a) → bool_eq a.v6 p.dest.addr.v6 ≡ true
    → route (fields (field (codes "destination") (text p.written) ++ field (codes "next-hop-interface") (text p.dev) ++ field (codes "next-hop-address") (text t) ++ field (codes "metric") (show.number p.metric) ++ field (codes "table-id") (show.number p.table))) ≡ given (Some (shown_route (route_of p (Some a))))
through_reads p t a r h family = rw (r.dest, r.dev, h, r.metric, r.table, family) refl

by_gateway : (gateway : Option Address) (l : Link) (p : Printed) → AreRead p → IfSome gateway IsAddress → route_on_link l (route_of p gateway) ≡ true
    → route (fields (field (codes "destination") (text p.written) ++ field (codes "next-hop-interface") (text p.dev) ++ field_of (codes "next-hop-address") show.address gateway ++ field (codes "metric") (show.number p.metric) ++ field (codes "table-id") (show.number p.table))) ≡ given (Some (shown_route (route_of p gateway)))
by_gateway None l p r fits on = direct_reads p r
by_gateway (Some a) l p r fits on =
    through_reads p (addr_text a) a r (gateway_reads a fits)
    (and_parts (bool_eq a.v6 p.dest.addr.v6) (is_link_local a || list_any (λ b. holds b a) l.addrs) on).0

-- the tree of a route that is on-link at a link is read as it is shown
pub route_reads : (l : Link) (r : Route) → RouteRanges r → route_on_link l r ≡ true → route (route_tree r) ≡ given (Some (shown_route r))
route_reads l r ranges on =
    let p : Printed = record { written = prefix_text r.dest; dest = r.dest; dev = r.dev; metric = r.metric; table = r.table } in
    let values : AreRead p = record { dest = subnet_reads r.dest ranges.dest; dev = name_reads r.dev ranges.dev.named; metric = counted_reads r.metric ranges.metric; table = table_reads r.table ranges.table } in
    by_gateway r.gateway l p values ranges.gateway on
