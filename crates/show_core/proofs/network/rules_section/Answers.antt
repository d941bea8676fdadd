use Rattle.show_core.proofs.network.rules_section.Goals as goal

pub returns : goal.returns
returns c = c.into_tree.ensures _ (c.put.ensures _ _ c.new.ensures c.each.ensures)
