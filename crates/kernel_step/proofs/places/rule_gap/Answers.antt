use Rattle.net_model.specs.Order.{rule_cmp}
use Rattle.net_model.specs.Valid.{same_rule}
use Rattle.kernel_step.proofs.Searching.{met_puts, missed_puts, rule_tie}
use Rattle.kernel_step.proofs.places.rule_gap.Goals as goal

pub returns-in-Ok-clause-puts : goal.returns-in-Ok-clause-puts
returns-in-Ok-clause-puts c = met_puts rule_cmp same_rule rule_tie c.args.rule.now c.args.rules.now c.in-Ok.i c.in-Ok.ensures

pub returns-in-Err-clause-puts : goal.returns-in-Err-clause-puts
returns-in-Err-clause-puts c = λ none. missed_puts rule_cmp same_rule rule_tie c.args.rule.now c.args.rules.now c.in-Err.i c.in-Err.ensures
