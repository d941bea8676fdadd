use Rattle.std.proofs.Common.{refl}
use Rattle.show_core.proofs.links.bridge_port.Goals as goal

pub returns : goal.returns
returns c =
    let name = c.put_name.ensures _ c.new.ensures in
    let hairpin = c.put_bool.ensures _ _ name refl in
    let cost = c.put_number.ensures _ _ hairpin c.from.ensures in
    let priority = c.put_number-2.ensures _ _ cost c.from-2.ensures in
    c.into_tree.ensures _ priority
