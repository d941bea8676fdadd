use Rattle.show_core.proofs.links.ip_tree.Goals as goal

pub returns : goal.returns
returns c =
    let enabled = c.put_bool.ensures _ _ c.new.ensures c.is_enabled.ensures in
    let address = c.put_if.ensures _ _ _ enabled c.is_enabled-2.ensures c.each.ensures in
    c.into_tree.ensures _ address
