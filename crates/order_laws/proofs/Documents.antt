-- Whole documents, whatever the order of their keys.
use Rattle.std.proofs.Common.{[], None}
use Rattle.std.specs.Prelude.{codes}
use Rattle.tree_schema.specs.Reading.{with_value, and_then}
use Rattle.link_schema.specs.Links.{links}
use Rattle.route_schema.specs.Routes.{routes}
use Rattle.route_schema.specs.Rules.{rules}
use Rattle.route_schema.specs.Dns.{dns}
use Rattle.route_schema.specs.Under.{routes_under, rules_under, dns_under}
use Rattle.document_schema.specs.Document.{parts, document}
use Rattle.order_laws.proofs.Readings.{alike_value, alike_then}
use Rattle.order_laws.proofs.Tables.{ReadsAlike, under_alike}
use Rattle.order_laws.proofs.Links.{LinkOrders, links_alike}
use Rattle.order_laws.proofs.Routes.{RouteOrders, routes_alike, rules_alike, dns_alike}

pub document_alike : LinkOrders → RouteOrders → ReadsAlike document
document_alike by_links by_routes s t r =
    alike_then (links s) (links t) (λ ls. and_then (routes_under s) (λ rs. and_then (rules_under s) (λ us. with_value (parts ls rs us) (dns_under s))))
    (λ ls. and_then (routes_under t) (λ rs. and_then (rules_under t) (λ us. with_value (parts ls rs us) (dns_under t)))) (links_alike by_links s t r)
    (λ ls. alike_then (routes_under s) (routes_under t) (λ rs. and_then (rules_under s) (λ us. with_value (parts ls rs us) (dns_under s)))
    (λ rs. and_then (rules_under t) (λ us. with_value (parts ls rs us) (dns_under t))) (under_alike (codes "routes") routes [] (routes_alike by_routes) s t r)
    (λ rs. alike_then (rules_under s) (rules_under t) (λ us. with_value (parts ls rs us) (dns_under s)) (λ us. with_value (parts ls rs us) (dns_under t))
    (under_alike (codes "route-rules") rules [] (rules_alike by_routes) s t r)
    (λ us. alike_value (parts ls rs us) (dns_under s) (dns_under t) (under_alike (codes "dns-resolver") dns None (dns_alike by_routes) s t r))))
