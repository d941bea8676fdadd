use Rattle.std.proofs.Common.{arith}
use Rattle.merge_model.specs.Members.{entered_over}
use Rattle.merge_model.proofs.lemmas.Steps.{filter_map_one}
use Rattle.link_order.proofs.ranking.all_entered.Goals as goal

pub loop-entry-preserved : goal.loop-entry-preserved
loop-entry-preserved c = rw (filter_map_one (entered_over c.args.net.now.links) c.args.entries.now c.loop-entry.entry-index c.entry-item.result (omega (arith, c.loop-entry-test.true)) c.entry-item.is, ← c.loop-entry.invariant) c.in_ok-push_entered.ensures
