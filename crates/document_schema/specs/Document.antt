-- A whole document: the top keys and the interfaces, then the routes, the rules and DNS.
use Rattle.std.specs.Prelude.{List, Option}
use Rattle.base_model.specs.declared.Path.{Path}
use Rattle.document_model.specs.declared.LinkEntry.{LinkEntry}
use Rattle.document_model.specs.declared.RouteEntry.{RouteEntry}
use Rattle.document_model.specs.declared.RuleEntry.{RuleEntry}
use Rattle.document_model.specs.declared.DnsEntry.{DnsEntry}
use Rattle.document_model.specs.declared.Doc.{Doc}
use Rattle.doc_tree.specs.Shape.{Shape}
use Rattle.tree_schema.specs.Reading.{Reading, with_value, and_then}
use Rattle.link_schema.specs.Links.{links}
use Rattle.route_schema.specs.Under.{routes_under, rules_under, dns_under}
use Rattle.document_schema.specs.declared.draft.Parts.{Parts}

-- ---- the document but for its notes

abbrev pub parts : List LinkEntry → List RouteEntry → List RuleEntry → Option DnsEntry → Parts
parts links routes rules dns = record { links = links; routes = routes; rules = rules; dns = dns }

abbrev pub document : Shape → Reading Parts
document s = and_then (links s) (λ ls. and_then (routes_under s) (λ rs. and_then (rules_under s) (λ us. with_value (parts ls rs us) (dns_under s))))

-- ---- and with them

abbrev pub doc : Parts → List Path → Doc
doc p notes = record { links = p.links; routes = p.routes; rules = p.rules; dns = p.dns; notes = notes }
