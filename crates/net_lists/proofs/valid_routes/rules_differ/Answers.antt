use Rattle.std.proofs.Common.{sym, ◌∙◌}
use Rattle.net_model.specs.Order.{rule_cmp}
use Rattle.net_model.specs.Valid.{same_rule}
use Rattle.net_model.specs.OrderLaws.{rule_cmp_total}
use Rattle.net_model.proofs.lemmas.Rises.{apart-steps, rises-steps}
use Rattle.net_model.proofs.lemmas.Ties.{rules_tie}
use Rattle.net_lists.proofs.valid_routes.rules_differ.Goals as goal

pub returns : goal.returns
returns c = c.rules_in_order.ensures ∙ sym (rises-steps rule_cmp rule_cmp_total c.args.rules.now) ∙ sym (apart-steps same_rule rule_cmp rule_cmp_total rules_tie c.args.rules.now c.requires)
