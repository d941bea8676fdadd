use Rattle.std.proofs.Common.{arith, rules}
use Rattle.net_equal.proofs.SameItems.{list_more}
use Rattle.net_equal.proofs.same_links.Goals as goal

pub loop-i-preserved : goal.loop-i-preserved
loop-i-preserved c = list_more c.args.a.now c.args.b.now c.loop-i.i c.index-a-i.result c.index-b-i.result (omega arith) (omega arith) c.loop-i.invariant c.index-a-i.is c.index-b-i.is (c.same_link.ensures.0 (search rules))
