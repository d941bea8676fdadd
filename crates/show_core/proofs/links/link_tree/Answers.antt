use Rattle.std.proofs.Common.{refl}
use Rattle.show_core.specs.Links.{link_tree}
use Rattle.show_core.proofs.links.link_tree.Goals as goal

pub returns : goal.returns
unfolding link_tree
returns c =
    let name = c.put_name.ensures _ c.new.ensures in
    let kind = c.put_word.ensures _ _ name c.type_word.ensures in
    let state = c.put_word-2.ensures _ _ kind c.state_word.ensures in
    let mac = c.put.ensures _ _ state c.mac_tree.ensures in
    let mtu = c.put_number.ensures _ _ mac refl in
    let controller = c.put_some_name.ensures _ mtu in
    let v4 = c.put-2.ensures _ _ controller c.family_tree.ensures in
    let v6 = c.put-pairs.ensures _ _ v4 c.family_tree-2.ensures in
    let section = c.put_section.ensures _ v6 in
    c.into_tree.ensures _ section
