use Rattle.route_schema.proofs.Commuting.{route_order, routes_order, rule_order, rules_order, dns_config_order, dns_order}
use Rattle.route_schema.proofs.order.order_laws.Goals as goal

pub returns-clause-route : goal.returns-clause-route
returns-clause-route c = route_order

pub returns-clause-routes : goal.returns-clause-routes
returns-clause-routes c = routes_order

pub returns-clause-rule : goal.returns-clause-rule
returns-clause-rule c = rule_order

pub returns-clause-rules : goal.returns-clause-rules
returns-clause-rules c = rules_order

pub returns-clause-dns_config : goal.returns-clause-dns_config
returns-clause-dns_config c = dns_config_order

pub returns-clause-dns : goal.returns-clause-dns
returns-clause-dns c = dns_order
