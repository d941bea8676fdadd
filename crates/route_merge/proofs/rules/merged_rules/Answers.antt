use Rattle.std.proofs.Common.{arith}
use Rattle.merge_model.specs.RuleNumbers.{take_unnumbered}
use Rattle.merge_model.proofs.lemmas.Steps.{fold_one}
use Rattle.route_merge.proofs.rules.merged_rules.Goals as goal

pub loop-rule-preserved : goal.loop-rule-preserved
loop-rule-preserved c = rw (fold_one take_unnumbered c.in_ok-taken.taken c.deref-rule-items.result.now c.loop-rule.rule-index c.rule-item.result (omega (arith, c.loop-rule-test.true)) c.rule-item.is, ← c.loop-rule.invariant) c.in_ok-taken-2.ensures
