use Rattle.show_core.proofs.links.vrf_section.Goals as goal

pub returns : goal.returns
returns c =
    let ports = c.put.ensures _ _ c.new.ensures c.ports.ensures in
    let table = c.put_number.ensures _ _ ports c.id.ensures in
    c.into_tree.ensures _ table
