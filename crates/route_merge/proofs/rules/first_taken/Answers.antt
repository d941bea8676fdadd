use Rattle.std.proofs.Common.{arith}
use Rattle.merge_model.proofs.lemmas.Steps.{once_rule_one}
use Rattle.route_merge.proofs.rules.first_taken.Goals as goal

pub loop-rule-preserved : goal.loop-rule-preserved
loop-rule-preserved c = rw (once_rule_one c.args.rules.now c.loop-rule.rule-index c.rule-item.result (omega (arith, c.loop-rule-test.true)) c.rule-item.is, ← c.loop-rule.invariant) c.in_ok-taken.ensures
