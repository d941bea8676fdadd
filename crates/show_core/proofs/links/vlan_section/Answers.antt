use Rattle.std.proofs.Common.{◌∙◌}
use Rattle.show_core.proofs.links.vlan_section.Goals as goal

pub returns : goal.returns
returns c =
    let base = c.put_name.ensures _ c.new.ensures in
    let id = c.put_number.ensures _ _ base (c.from.ensures ∙ c.id.ensures) in
    let proto = c.put_word.ensures _ _ id c.proto_word.ensures in
    c.into_tree.ensures _ proto
