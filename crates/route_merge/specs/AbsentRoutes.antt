-- What absent entries of routes state, and an index of it.
use Rattle.std.specs.Prelude.{◌≡◌, Bool, ◌&&◌, List, Some, None, is_some, if◌then◌else◌}
use Rattle.std.specs.List.{list_any}
use Rattle.std.specs.Option.{option_eq, option_cmp}
use Rattle.std.specs.Ordering.{nat_cmp, ordering_then}
use Rattle.std.specs.declared.cmp.Ordering.{Ordering}
use Rattle.std.specs.BTreeSet.{BTreeSet, contains}
use Rattle.net_model.specs.Name.{same_bytes}
use Rattle.net_model.specs.Words.{bool_eq}
use Rattle.net_model.specs.Order.{name_cmp, address_cmp, block_cmp}
use Rattle.net_model.specs.Valid.{same_address, same_block}
use Rattle.net_model.specs.declared.Route.{Route}
use Rattle.document_model.specs.declared.RouteEntry.{RouteEntry}
use Rattle.merge_model.specs.Routes.{same_number}
use Rattle.route_merge.specs.declared.absent_routes.StatedRoute.{StatedRoute}

abbrev pub stated_of : RouteEntry → StatedRoute
stated_of e = record { dest = e.dest; dev = e.dev; gateway = e.gateway; metric = e.metric; table = e.table }

-- by all fields in their order
abbrev pub stated_cmp : StatedRoute → StatedRoute → Ordering
stated_cmp a b = ordering_then (option_cmp block_cmp a.dest b.dest) (ordering_then (option_cmp name_cmp a.dev b.dev) (ordering_then (option_cmp address_cmp a.gateway b.gateway) (ordering_then (option_cmp nat_cmp a.metric b.metric) (option_cmp nat_cmp a.table b.table))))

abbrev pub same_stated : StatedRoute → StatedRoute → Bool
same_stated a b = option_eq same_block a.dest b.dest && option_eq same_bytes a.dev b.dev && option_eq same_address a.gateway b.gateway && option_eq same_number a.metric b.metric && option_eq same_number a.table b.table

-- both state the same fields, whatever their values
abbrev pub alike : StatedRoute → StatedRoute → Bool
alike a b = bool_eq (is_some a.dest) (is_some b.dest) && bool_eq (is_some a.dev) (is_some b.dev) && bool_eq (is_some a.gateway) (is_some b.gateway) && bool_eq (is_some a.metric) (is_some b.metric) && bool_eq (is_some a.table) (is_some b.table)

-- what of the route an entry that states these fields states, where it matches
abbrev pub narrowed : StatedRoute → Route → StatedRoute
narrowed s r = record {
  dest = if is_some s.dest then Some r.dest else None;
  dev = if is_some s.dev then Some r.dev else None;
  gateway = if is_some s.gateway then r.gateway else None;
  metric = if is_some s.metric then Some r.metric else None;
  table = if is_some s.table then Some r.table else None;
}

-- the fields that one of these states are those that an absent entry states
abbrev pub HasShapes : List StatedRoute → List RouteEntry → Type 0
HasShapes shapes es = (q : StatedRoute) → list_any (λ s. alike s q) shapes ≡ list_any (λ e. e.absent && alike (stated_of e) q) es

-- the set has what the absent entries state
abbrev pub HasStated : BTreeSet StatedRoute → List RouteEntry → Type 0
HasStated set es = (q : StatedRoute) → contains stated_cmp set q ≡ list_any (λ e. e.absent && same_stated (stated_of e) q) es
