use Rattle.std.proofs.Common.{sym}
use Rattle.net_model.specs.Order.{rule_cmp}
use Rattle.net_model.specs.Valid.{same_rule}
use Rattle.kernel_step.proofs.Searching.{met_any, missed_any, rule_tie}
use Rattle.kernel_step.proofs.places.has_rule.Goals as goal

pub returns-in-Ok : goal.returns-in-Ok
returns-in-Ok c = sym (met_any rule_cmp same_rule rule_tie c.args.rule.now c.args.rules.now c.in-Ok.field-0 c.in-Ok.ensures)

pub returns-in-Err : goal.returns-in-Err
returns-in-Err c = sym (missed_any rule_cmp same_rule rule_tie c.args.rule.now c.args.rules.now c.in-Err.field-0 c.in-Err.ensures)
