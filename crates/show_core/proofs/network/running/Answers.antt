use Rattle.show_core.proofs.network.running.Goals as goal

pub returns : goal.returns
returns c form first second = c.into_tree.ensures _ (c.put-2.ensures _ form (c.put.ensures _ form c.new.ensures first) second)
