use Rattle.show_core.proofs.lemmas.Turns.{turn}
use Rattle.show_core.proofs.values.each.Goals as goal

pub loop-item-preserved : goal.loop-item-preserved
loop-item-preserved g c =
    turn g.T.Shown.tree c.args.items.now c.loop-item.item-index c.item-item.result c.loop-item-test.true c.item-item.is
    c.loop-item.trees.items c.push.new.self.items c.in_ok-tree.tree c.in_ok-tree.ensures c.loop-item.invariant c.in_ok-push.ensures.items
