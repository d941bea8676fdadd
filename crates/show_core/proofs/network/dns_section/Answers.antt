use Rattle.show_core.proofs.network.dns_section.Goals as goal

pub returns : goal.returns
returns c = c.running.ensures _ c.dns_tree.ensures c.dns_tree-2.ensures
