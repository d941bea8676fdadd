use Rattle.std.proofs.Common.{arith}
use Rattle.std.proofs.lemmas.List.Sorted.{searchable_from_sorted}
use Rattle.net_model.specs.Rule.{RuleParts}
use Rattle.net_model.specs.Order.{rule_cmp}
use Rattle.net_model.specs.OrderLaws.{rule_cmp_total}
use Rattle.net_model.specs.Valid.{same_rule}
use Rattle.net_model.proofs.lemmas.Rises.{sorted-rises, apart-rises}
use Rattle.net_model.proofs.lemmas.Ties.{rules_tie}
use Rattle.net_model.proofs.lemmas.Places.{stands, gap}
use Rattle.net_lists.proofs.position.rule_position.Goals as goal

pub returns-in-Ok : goal.returns-in-Ok
returns-in-Ok c =
    let k : RuleParts = c.args.rule.now in
    stands same_rule rule_cmp rule_cmp_total rules_tie k c.args.rules.now (apart-rises same_rule rule_cmp rules_tie c.args.rules.now c.requires) c.in-Ok.i (omega (arith, c.in-Ok.ensures.bound)) c.in-Ok.ensures.position

pub returns-in-Err : goal.returns-in-Err
returns-in-Err c =
    let k : RuleParts = c.args.rule.now in
    gap same_rule rule_cmp rule_cmp_total rules_tie k rule_cmp (λ y h. h) (λ y h. h) c.args.rules.now c.in-Err.i c.in-Err.ensures.bound (c.in-Err.ensures.position (searchable_from_sorted rule_cmp_total (λ (r : RuleParts). r) c.args.rules.now k (sorted-rises rule_cmp rule_cmp_total c.args.rules.now c.requires)))
