use Rattle.show_core.proofs.pairs.Pairs.put_name.Goals as goal

pub returns : goal.returns
returns c held h = c.put.ensures held _ h c.name_tree-tree.ensures
