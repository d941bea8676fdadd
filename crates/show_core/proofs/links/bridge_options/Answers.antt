use Rattle.std.proofs.Common.{refl}
use Rattle.show_core.proofs.links.bridge_options.Goals as goal

pub returns : goal.returns
returns c =
    let mac_ageing = c.put_number.ensures _ _ c.new.ensures refl in
    let stp = c.put.ensures _ _ mac_ageing c.stp_options.ensures in
    c.into_tree.ensures _ stp
