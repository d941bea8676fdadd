-- Routes, rules and DNS, whatever the order of their keys.
use Rattle.std.proofs.Common.{[], Some, None, refl}
use Rattle.tree_schema.specs.declared.Reason.TheVariants.{Unsupported}
use Rattle.tree_schema.specs.Reading.{and_then}
use Rattle.tree_schema.specs.Tables.{read_map}
use Rattle.tree_schema.specs.Order.{IsReadInAnyOrder}
use Rattle.route_schema.specs.Words.{domain}
use Rattle.route_schema.specs.Words as words
use Rattle.route_schema.specs.Routes.{route_table, no_route, checked_route, route, routes_table, routes}
use Rattle.route_schema.specs.Rules.{rule_table, no_rule, checked_rule, rule, rules_table, rules}
use Rattle.route_schema.specs.Dns.{dns_config_table, no_dns, dns_table, dns}
use Rattle.order_laws.proofs.Readings.{alike_same, alike_value, alike_then}
use Rattle.order_laws.proofs.Tables.{ReadsAlike, IsFairTable, value_fair, part_fair, passed_fair, refused_fair, map_alike}
use Rattle.order_laws.proofs.Lists.{list_alike, item_alike}

-- that each table is read in any order
pub record RouteOrders : Type 0 where
  pub route : IsReadInAnyOrder route_table
  pub routes : IsReadInAnyOrder routes_table
  pub rule : IsReadInAnyOrder rule_table
  pub rules : IsReadInAnyOrder rules_table
  pub dns_config : IsReadInAnyOrder dns_config_table
  pub dns : IsReadInAnyOrder dns_table

module _ (orders : RouteOrders) where
  -- ---- routes

  route_fair : IsFairTable route_table
  route_fair = record {
    order = orders.route;
    rows = (
      value_fair _ _ ((λ ss ts. refl), (λ ps qs. refl)),
      (
        value_fair _ _ ((λ ss ts. refl), (λ ps qs. refl)),
        (
          value_fair _ _ ((λ ss ts. refl), (λ ps qs. refl)),
          (
            value_fair _ _ ((λ ss ts. refl), (λ ps qs. refl)),
            (
              value_fair _ _ ((λ ss ts. refl), (λ ps qs. refl)),
              (
                value_fair _ _ ((λ ss ts. refl), (λ ps qs. refl)),
                (refused_fair Unsupported, (refused_fair Unsupported, (refused_fair Unsupported, tt))),
              ),
            ),
          ),
        ),
      ),
    );
    others = λ e f. tt;
  }

  route_alike : ReadsAlike route
  route_alike s t r =
      alike_value Some (and_then (read_map route_table no_route s) checked_route) (and_then (read_map route_table no_route t) checked_route)
      (alike_then (read_map route_table no_route s) (read_map route_table no_route t) checked_route checked_route (map_alike route_table route_fair no_route s t r) (λ e. alike_same (checked_route e)))

  routes_fair : IsFairTable routes_table
  routes_fair = record { order = orders.routes; rows = (part_fair _ _ (list_alike route route_alike), (passed_fair, tt)); others = λ e f. tt }

  pub routes_alike : ReadsAlike routes
  routes_alike = map_alike routes_table routes_fair []

  -- ---- rules

  rule_fair : IsFairTable rule_table
  rule_fair = record {
    order = orders.rule;
    rows = (
      value_fair _ _ ((λ ss ts. refl), (λ ps qs. refl)),
      (
        value_fair _ _ ((λ ss ts. refl), (λ ps qs. refl)),
        (
          value_fair _ _ ((λ ss ts. refl), (λ ps qs. refl)),
          (
            value_fair _ _ ((λ ss ts. refl), (λ ps qs. refl)),
            (
              value_fair _ _ ((λ ss ts. refl), (λ ps qs. refl)),
              (
                value_fair _ _ ((λ ss ts. refl), (λ ps qs. refl)),
                (
                  value_fair _ _ ((λ ss ts. refl), (λ ps qs. refl)),
                  (
                    value_fair _ _ ((λ ss ts. refl), (λ ps qs. refl)),
                    (
                      value_fair _ _ ((λ ss ts. refl), (λ ps qs. refl)),
                      (value_fair _ _ ((λ ss ts. refl), (λ ps qs. refl)), tt),
                    ),
                  ),
                ),
              ),
            ),
          ),
        ),
      ),
    );
    others = λ e f. tt;
  }

  rule_alike : ReadsAlike rule
  rule_alike s t r =
      alike_value Some (and_then (read_map rule_table no_rule s) checked_rule) (and_then (read_map rule_table no_rule t) checked_rule)
      (alike_then (read_map rule_table no_rule s) (read_map rule_table no_rule t) checked_rule checked_rule (map_alike rule_table rule_fair no_rule s t r) (λ e. alike_same (checked_rule e)))

  rules_fair : IsFairTable rules_table
  rules_fair = record { order = orders.rules; rows = (part_fair _ _ (list_alike rule rule_alike), tt); others = λ e f. tt }

  pub rules_alike : ReadsAlike rules
  rules_alike = map_alike rules_table rules_fair []

  -- ---- DNS

  dns_config_fair : IsFairTable dns_config_table
  dns_config_fair = record {
    order = orders.dns_config;
    rows = (
      part_fair _ _ (list_alike _ (item_alike words.address ((λ ss ts. refl), (λ ps qs. refl)))),
      (part_fair _ _ (list_alike _ (item_alike domain ((λ ss ts. refl), (λ ps qs. refl)))), tt),
    );
    others = λ e f. tt;
  }

  dns_fair : IsFairTable dns_table
  dns_fair = record { order = orders.dns; rows = (part_fair _ _ (map_alike dns_config_table dns_config_fair no_dns), (passed_fair, tt)); others = λ e f. tt }

  pub dns_alike : ReadsAlike dns
  dns_alike = map_alike dns_table dns_fair None
