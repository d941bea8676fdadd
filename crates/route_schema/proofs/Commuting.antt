-- The order of keys has no effect on what is read of routes, rules and DNS.
use Rattle.std.proofs.Common.{refl, inr}
use Rattle.route_schema.specs.Dns.{dns_config_table, dns_table}
use Rattle.route_schema.specs.Routes.{route_table, routes_table}
use Rattle.route_schema.specs.Rules.{rule_table, rules_table}
use Rattle.tree_schema.specs.Order.{IsReadInAnyOrder}
use Rattle.tree_schema.proofs.lemmas.Orders.{puts, nothing_after, kept, any_order}

-- an entry of routes
pub route_order : IsReadInAnyOrder route_table
route_order = any_order route_table (inr (λ e. refl)) (
  (puts _ _ _ _ (λ e x y. refl), (puts _ _ _ _ (λ e x y. refl), (puts _ _ _ _ (λ e x y. refl), (puts _ _ _ _ (λ e x y. refl), (puts _ _ _ _ (λ e x y. refl), ((λ s u e. nothing_after _), ((λ s u e. nothing_after _), ((λ s u e. nothing_after _), tt)))))))),
  (
    (puts _ _ _ _ (λ e x y. refl), (puts _ _ _ _ (λ e x y. refl), (puts _ _ _ _ (λ e x y. refl), (puts _ _ _ _ (λ e x y. refl), ((λ s u e. nothing_after _), ((λ s u e. nothing_after _), ((λ s u e. nothing_after _), tt))))))),
    (
      (puts _ _ _ _ (λ e x y. refl), (puts _ _ _ _ (λ e x y. refl), (puts _ _ _ _ (λ e x y. refl), ((λ s u e. nothing_after _), ((λ s u e. nothing_after _), ((λ s u e. nothing_after _), tt)))))),
      (
        (puts _ _ _ _ (λ e x y. refl), (puts _ _ _ _ (λ e x y. refl), ((λ s u e. nothing_after _), ((λ s u e. nothing_after _), ((λ s u e. nothing_after _), tt))))),
        (
          (puts _ _ _ _ (λ e x y. refl), ((λ s u e. nothing_after _), ((λ s u e. nothing_after _), ((λ s u e. nothing_after _), tt)))),
          (
            ((λ s u e. nothing_after _), ((λ s u e. nothing_after _), ((λ s u e. nothing_after _), tt))),
            (
              ((λ s u e. refl), ((λ s u e. refl), tt)),
              (
                ((λ s u e. refl), tt),
                (
                  tt,
                  tt,
                ),
              ),
            ),
          ),
        ),
      ),
    ),
  ),
)

-- the section of routes
pub routes_order : IsReadInAnyOrder routes_table
routes_order = any_order routes_table (inr (λ e. refl)) (
  ((λ s u e. kept _), tt),
  (
    tt,
    tt,
  ),
)

-- an entry of rules
pub rule_order : IsReadInAnyOrder rule_table
rule_order = any_order rule_table (inr (λ e. refl)) (
  (puts _ _ _ _ (λ e x y. refl), (puts _ _ _ _ (λ e x y. refl), (puts _ _ _ _ (λ e x y. refl), (puts _ _ _ _ (λ e x y. refl), (puts _ _ _ _ (λ e x y. refl), (puts _ _ _ _ (λ e x y. refl), (puts _ _ _ _ (λ e x y. refl), (puts _ _ _ _ (λ e x y. refl), (puts _ _ _ _ (λ e x y. refl), tt))))))))),
  (
    (puts _ _ _ _ (λ e x y. refl), (puts _ _ _ _ (λ e x y. refl), (puts _ _ _ _ (λ e x y. refl), (puts _ _ _ _ (λ e x y. refl), (puts _ _ _ _ (λ e x y. refl), (puts _ _ _ _ (λ e x y. refl), (puts _ _ _ _ (λ e x y. refl), (puts _ _ _ _ (λ e x y. refl), tt)))))))),
    (
      (puts _ _ _ _ (λ e x y. refl), (puts _ _ _ _ (λ e x y. refl), (puts _ _ _ _ (λ e x y. refl), (puts _ _ _ _ (λ e x y. refl), (puts _ _ _ _ (λ e x y. refl), (puts _ _ _ _ (λ e x y. refl), (puts _ _ _ _ (λ e x y. refl), tt))))))),
      (
        (puts _ _ _ _ (λ e x y. refl), (puts _ _ _ _ (λ e x y. refl), (puts _ _ _ _ (λ e x y. refl), (puts _ _ _ _ (λ e x y. refl), (puts _ _ _ _ (λ e x y. refl), (puts _ _ _ _ (λ e x y. refl), tt)))))),
        (
          (puts _ _ _ _ (λ e x y. refl), (puts _ _ _ _ (λ e x y. refl), (puts _ _ _ _ (λ e x y. refl), (puts _ _ _ _ (λ e x y. refl), (puts _ _ _ _ (λ e x y. refl), tt))))),
          (
            (puts _ _ _ _ (λ e x y. refl), (puts _ _ _ _ (λ e x y. refl), (puts _ _ _ _ (λ e x y. refl), (puts _ _ _ _ (λ e x y. refl), tt)))),
            (
              (puts _ _ _ _ (λ e x y. refl), (puts _ _ _ _ (λ e x y. refl), (puts _ _ _ _ (λ e x y. refl), tt))),
              (
                (puts _ _ _ _ (λ e x y. refl), (puts _ _ _ _ (λ e x y. refl), tt)),
                (
                  (puts _ _ _ _ (λ e x y. refl), tt),
                  (
                    tt,
                    tt,
                  ),
                ),
              ),
            ),
          ),
        ),
      ),
    ),
  ),
)

-- the section of rules
pub rules_order : IsReadInAnyOrder rules_table
rules_order = any_order rules_table (inr (λ e. refl)) (
  tt,
  tt,
)

-- the settings of DNS
pub dns_config_order : IsReadInAnyOrder dns_config_table
dns_config_order = any_order dns_config_table (inr (λ e. refl)) (
  (puts _ _ _ _ (λ e x y. refl), tt),
  (
    tt,
    tt,
  ),
)

-- the section of DNS
pub dns_order : IsReadInAnyOrder dns_table
dns_order = any_order dns_table (inr (λ e. refl)) (
  ((λ s u e. kept _), tt),
  (
    tt,
    tt,
  ),
)
