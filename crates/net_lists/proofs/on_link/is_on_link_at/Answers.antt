use Rattle.std.proofs.Common.{◌∙◌, Bool, false, Some, ap, sym}
use Rattle.std.specs.Option.{option_map_or}
use Rattle.net_model.specs.Valid.{route_on_link}
use Rattle.net_model.specs.declared.link.Link.{Link}
use Rattle.net_model.proofs.lemmas.Found.{named_passes_found}
use Rattle.net_lists.proofs.on_link.is_on_link_at.Goals as goal

pub returns-in-At : goal.returns-in-At
returns-in-At c =
    let test : Link → Bool = λ l. route_on_link l c.args.route.now in
    c.route_on_link.ensures
    ∙ sym (named_passes_found test c.args.links.now c.args.name.now c.requires ∙ ap (λ o. option_map_or test o false) (c.in-At.ensures.found c.index-links-i.result ∙ ap Some (sym c.index-links-i.is)))

pub returns-in-Gap : goal.returns-in-Gap
returns-in-Gap c =
    let test : Link → Bool = λ l. route_on_link l c.args.route.now in
    sym (named_passes_found test c.args.links.now c.args.name.now c.requires ∙ ap (λ o. option_map_or test o false) c.in-Gap.ensures.none)
