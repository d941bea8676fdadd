use Rattle.std.proofs.Common.{◌∙◌, ℕ, List, subst}
use Rattle.doc_tree.specs.Shape.{text}
use Rattle.net_model.specs.Address.{Address}
use Rattle.show_core.specs.Fields.{each, address}
use Rattle.show_core.specs.Pairs.{IsTree}
use Rattle.show_core.proofs.network.dns_tree.Goals as goal

pub returns : goal.returns
returns c =
    let servers = subst (λ (xs : List Address). IsTree (each address xs) c.each.result) (c.deref.ensures.value ∙ c.items.ensures) c.each.ensures in
    let search = subst (λ (names : List (List ℕ)). IsTree (each text names) c.each-2.result) (c.deref-2.ensures.value ∙ c.items-2.ensures) c.each-2.ensures in
    let server = c.put.ensures _ _ c.new.ensures servers in
    let searched = c.put-2.ensures _ _ server search in
    c.into_tree.ensures _ searched
