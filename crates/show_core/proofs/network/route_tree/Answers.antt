use Rattle.std.proofs.Common.{refl}
use Rattle.show_core.proofs.network.route_tree.Goals as goal

pub returns : goal.returns
returns c =
    let dest = c.put.ensures _ _ c.new.ensures c.subnet_tree.ensures in
    let dev = c.put_name.ensures _ dest in
    let gateway = c.put_some_address.ensures _ dev in
    let metric = c.put_number.ensures _ _ gateway refl in
    let table = c.put_number-2.ensures _ _ metric c.id.ensures in
    c.into_tree.ensures _ table
