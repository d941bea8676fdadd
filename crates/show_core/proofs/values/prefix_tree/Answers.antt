use Rattle.std.proofs.Common.{◌∙◌, subst}
use Rattle.net_model.specs.Address.{Address}
use Rattle.show_core.specs.Fields.{address}
use Rattle.show_core.specs.Pairs.{IsTree}
use Rattle.show_core.proofs.values.prefix_tree.Goals as goal

pub returns : goal.returns
returns c =
    let addr = subst (λ (a : Address). IsTree (address a) c.address_tree.result) c.addr.ensures c.address_tree.ensures in
    let ip = c.put.ensures _ _ c.new.ensures addr in
    let length = c.put_number.ensures _ _ ip (c.from.ensures ∙ c.len.ensures) in
    c.into_tree.ensures _ length
