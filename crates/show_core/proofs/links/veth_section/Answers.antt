use Rattle.show_core.proofs.links.veth_section.Goals as goal

pub returns : goal.returns
returns c = c.into_tree.ensures _ (c.put_name.ensures _ c.new.ensures)
