-- What stands under the top keys of routes, rules and DNS.
use Rattle.std.specs.Prelude.{List, [], Option, None}
use Rattle.document_model.specs.declared.RouteEntry.{RouteEntry}
use Rattle.document_model.specs.declared.RuleEntry.{RuleEntry}
use Rattle.document_model.specs.declared.DnsEntry.{DnsEntry}
use Rattle.doc_tree.specs.Shape.{Shape}
use Rattle.tree_schema.specs.Reading.{Reading}
use Rattle.tree_schema.specs.Tables.{read_under}
use Rattle.route_schema.specs.Routes.{routes}
use Rattle.route_schema.specs.Rules.{rules}
use Rattle.route_schema.specs.Dns.{dns}

abbrev pub routes_under : Shape → Reading (List RouteEntry)
routes_under s = read_under "routes" routes [] s

abbrev pub rules_under : Shape → Reading (List RuleEntry)
rules_under s = read_under "route-rules" rules [] s

abbrev pub dns_under : Shape → Reading (Option DnsEntry)
dns_under s = read_under "dns-resolver" dns None s
