use Rattle.show_core.proofs.network.routes_section.Goals as goal

pub returns : goal.returns
returns c = c.running.ensures _ c.each.ensures c.each-2.ensures
