use Rattle.show_core.proofs.links.bridge_section.Goals as goal

pub returns : goal.returns
returns c =
    let options = c.put.ensures _ _ c.new.ensures c.bridge_options.ensures in
    let ports = c.put-2.ensures _ _ options c.bridge_ports.ensures in
    c.into_tree.ensures _ ports
