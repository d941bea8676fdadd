use Rattle.std.proofs.Common.{◌∙◌, List, subst}
use Rattle.std.specs.List.{filter}
use Rattle.net_model.specs.Links.{is_named}
use Rattle.net_model.specs.declared.link.Link.{Link}
use Rattle.show_core.specs.Fields.{each}
use Rattle.show_core.specs.Links.{link_tree}
use Rattle.show_core.specs.Pairs.{IsTree}
use Rattle.show_core.proofs.network.named_tree.Goals as goal

pub returns : goal.returns
returns c =
    let links = subst (λ (ls : List Link). IsTree (each (link_tree ls) (filter (is_named c.args.name.now) ls)) c.named_links.result) (c.deref.ensures.value ∙ c.links.ensures) c.named_links.ensures in
    c.into_tree.ensures _ (c.put.ensures _ _ c.new.ensures links)
