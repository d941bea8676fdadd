-- The orders are total.
use Rattle.std.specs.Prelude.{◌≡◌, refl}
use Rattle.std.specs.Ordering.{as_partial_cmp, eq_by_cmp}
use Rattle.std.specs.Cmp.{IsTotalOrder, IsPartialOrder, IsPartialEquivalence, IsEquivalence, Agrees, partial_order_from_agreeing_total}
use Rattle.std.specs.Cmp.Rules.{comparing}
use Rattle.std.proofs.Common.{rules}
use Rattle.net_model.specs.Rule.{RuleParts}
use Rattle.net_model.specs.Order.{block_cmp, target_cmp, rule_cmp}

pub block_cmp_total : IsTotalOrder block_cmp
block_cmp_total = search (comparing, rules)

pub target_cmp_total : IsTotalOrder target_cmp
target_cmp_total = search (comparing, rules)

pub rule_cmp_total : IsTotalOrder rule_cmp
rule_cmp_total = search (comparing, rules, block_cmp_total, target_cmp_total) depth 24

pub rules_equivalent : IsEquivalence (eq_by_cmp rule_cmp)
rules_equivalent = search (comparing, rules, rule_cmp_total)

pub rules_equal : IsPartialEquivalence (eq_by_cmp rule_cmp)
rules_equal = search (comparing, rules, rules_equivalent)

pub rules_agree : Agrees (as_partial_cmp rule_cmp) rule_cmp
rules_agree = λ x y. refl

pub rules_tied : (x y : RuleParts) → eq_by_cmp rule_cmp x y ≡ eq_by_cmp rule_cmp x y
rules_tied x y = refl

pub rules_partly : IsPartialOrder (eq_by_cmp rule_cmp) (as_partial_cmp rule_cmp)
rules_partly = partial_order_from_agreeing_total rule_cmp rule_cmp_total rules_agree rules_tied
