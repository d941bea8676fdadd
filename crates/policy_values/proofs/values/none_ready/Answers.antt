use Rattle.std.proofs.Common.{false}
use Rattle.policy_values.proofs.Walks.{same_on}
use Rattle.policy_values.proofs.values.none_ready.Goals as goal

pub loop-capture-preserved : goal.loop-capture-preserved
loop-capture-preserved c = same_on false c.args.captures.now c.loop-capture._capture-index c.loop-capture.flags.items _ c.loop-capture.invariant c.loop-capture-test.true c.in_ok-push.ensures.items
