use Rattle.show_core.proofs.links.bond_section.Goals as goal

pub returns : goal.returns
returns c =
    let mode = c.put_word.ensures _ _ c.new.ensures c.mode_word.ensures in
    let options = c.put.ensures _ _ mode c.bond_options.ensures in
    let ports = c.put-2.ensures _ _ options c.ports.ensures in
    c.into_tree.ensures _ ports
