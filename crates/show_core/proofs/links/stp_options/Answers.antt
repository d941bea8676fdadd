use Rattle.std.proofs.Common.{refl}
use Rattle.show_core.proofs.links.stp_options.Goals as goal

pub returns : goal.returns
returns c =
    let enabled = c.put_bool.ensures _ _ c.new.ensures refl in
    let priority = c.put_number.ensures _ _ enabled c.from.ensures in
    let forward_delay = c.put_number-2.ensures _ _ priority c.from-2.ensures in
    let hello_time = c.put_number-3.ensures _ _ forward_delay c.from-3.ensures in
    let max_age = c.put_number-4.ensures _ _ hello_time c.from-4.ensures in
    c.into_tree.ensures _ max_age
