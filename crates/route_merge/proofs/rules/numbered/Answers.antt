use Rattle.std.proofs.Common.{arith}
use Rattle.merge_model.specs.RuleNumbers.{numbered_rule}
use Rattle.merge_model.proofs.lemmas.Steps.{filter_map_one}
use Rattle.route_merge.proofs.rules.numbered.Goals as goal

pub loop-entry-preserved : goal.loop-entry-preserved
loop-entry-preserved c = rw (filter_map_one numbered_rule c.args.entries.now c.loop-entry.entry-index c.entry-item.result (omega (arith, c.loop-entry-test.true)) c.entry-item.is, ← c.loop-entry.invariant) c.in_ok-push_numbered.ensures
