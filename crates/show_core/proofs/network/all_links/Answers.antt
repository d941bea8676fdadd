use Rattle.show_core.specs.Links.{link_tree}
use Rattle.show_core.proofs.lemmas.Turns.{turn}
use Rattle.show_core.proofs.network.all_links.Goals as goal

pub loop-link-preserved : goal.loop-link-preserved
loop-link-preserved c =
    turn (link_tree c.args.links.now) c.args.links.now c.loop-link.link-index c.link-item.result c.loop-link-test.true c.link-item.is
    c.loop-link.trees.items c.push.new.self.items c.in_ok-tree.tree c.in_ok-tree.ensures c.loop-link.invariant c.in_ok-push.ensures.items
