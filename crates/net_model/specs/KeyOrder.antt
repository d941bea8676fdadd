-- The order of the keys of routes, which is total.
use Rattle.std.specs.Prelude.{◌≡◌, Bool, not, refl}
use Rattle.std.specs.declared.cmp.Ordering.{Ordering}
use Rattle.std.specs.Ordering.{nat_cmp, on, as_partial_cmp, eq_by_cmp}
use Rattle.std.specs.Cmp.{IsTotalOrder, IsPartialOrder, IsPartialEquivalence, IsEquivalence, Agrees, partial_order_from_agreeing_total}
use Rattle.std.specs.Cmp.Rules.{comparing}
use Rattle.std.proofs.Common.{rules}
use Rattle.net_model.specs.Order.{block_cmp, ◌⨾◌}
use Rattle.net_model.specs.OrderLaws.{block_cmp_total}
use Rattle.net_model.specs.declared.route_key.RouteKey.{RouteKey}

-- by destination, table and metric, as routes are
abbrev pub key_cmp : RouteKey → RouteKey → Ordering
key_cmp = on (λ (k : RouteKey). k.dest) block_cmp ⨾ on (λ (k : RouteKey). k.table) nat_cmp ⨾ on (λ (k : RouteKey). k.metric) nat_cmp

-- it is another key
abbrev pub is_other : RouteKey → RouteKey → Bool
is_other key k = not (eq_by_cmp key_cmp k key)

pub key_cmp_total : IsTotalOrder key_cmp
key_cmp_total = search (comparing, rules, block_cmp_total) depth 12

pub keys_equivalent : IsEquivalence (eq_by_cmp key_cmp)
keys_equivalent = search (comparing, rules, key_cmp_total)

pub keys_equal : IsPartialEquivalence (eq_by_cmp key_cmp)
keys_equal = search (comparing, rules, keys_equivalent)

pub keys_agree : Agrees (as_partial_cmp key_cmp) key_cmp
keys_agree = λ x y. refl

pub keys_tied : (x y : RouteKey) → eq_by_cmp key_cmp x y ≡ eq_by_cmp key_cmp x y
keys_tied x y = refl

pub keys_partly : IsPartialOrder (eq_by_cmp key_cmp) (as_partial_cmp key_cmp)
keys_partly = partial_order_from_agreeing_total key_cmp key_cmp_total keys_agree keys_tied
