use Rattle.std.proofs.Common.{arith, ◌<◌, length}
use Rattle.net_index.specs.InIndex.{listed}
use Rattle.net_model.proofs.lemmas.ListChanges.{cleared_more}
use Rattle.net_index.proofs.index.Index.clear_all.Goals as goal

pub loop-at-preserved : goal.loop-at-preserved
loop-at-preserved g c =
    let inside : c.loop-at.at < length c.args.names.now = omega (arith, c.loop-at-test.true, c.loop-at.auto.at-end) in
    cleared_more c.args.names.now c.loop-at.at c.index-names-at.result (listed c.args.self.now) (listed c.loop-at.self) (listed c.clear.new.self) inside c.index-names-at.is c.loop-at.invariant c.clear.ensures
