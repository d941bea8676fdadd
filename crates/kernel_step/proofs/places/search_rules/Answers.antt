use Rattle.std.proofs.lemmas.List.Sorted.{searchable_from_sorted}
use Rattle.net_model.specs.Rule.{RuleParts}
use Rattle.net_model.specs.Order.{rule_cmp}
use Rattle.net_model.specs.OrderLaws.{rule_cmp_total}
use Rattle.net_model.proofs.lemmas.Rises.{sorted-rises}
use Rattle.kernel_step.proofs.places.search_rules.Goals as goal

pub returns-in-Ok : goal.returns-in-Ok
returns-in-Ok c = (c.in-Ok.ensures.bound, λ d. c.in-Ok.ensures.position d)

pub returns-in-Err : goal.returns-in-Err
returns-in-Err c = (c.in-Err.ensures.bound, c.in-Err.ensures.position (searchable_from_sorted rule_cmp_total (λ (x : RuleParts). x) c.args.rules.now c.args.rule.now (sorted-rises rule_cmp rule_cmp_total c.args.rules.now c.requires)))
