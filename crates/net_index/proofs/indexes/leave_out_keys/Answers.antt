use Rattle.std.proofs.Common.{arith, ◌<◌, length}
use Rattle.net_model.proofs.lemmas.VlanKeys.{nothing_lost, lost_more}
use Rattle.net_index.proofs.indexes.leave_out_keys.Goals as goal

pub loop-at-init : goal.loop-at-init
loop-at-init c = nothing_lost c.args.links.now c.args.seen.now

pub loop-at-preserved : goal.loop-at-preserved
loop-at-preserved c =
    let inside : c.loop-at.at < length c.args.goes.now = omega (arith, c.loop-at-test.true, c.loop-at.auto.at-end) in
    lost_more c.args.goes.now c.loop-at.at c.index-goes-at.result c.args.links.now c.args.seen.now c.loop-at.seen c.leave_out_key_at.new.seen c.requires inside c.index-goes-at.is c.loop-at.invariant c.leave_out_key_at.ensures
