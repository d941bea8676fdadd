use Rattle.std.proofs.Common.{◌≡◌, ◌∙◌, List, Some, None, sym, ap}
use Rattle.std.specs.Option.{option_map_or}
use Rattle.net_model.specs.Links.{find_link}
use Rattle.net_model.specs.Lists.{NetData}
use Rattle.net_model.specs.declared.link.Link.{Link}
use Rattle.link_step.proofs.Primaries.{free_but_for}
use Rattle.link_step.proofs.step.detach.Goals as goal

pub detach_from-requires-clause-alone : goal.detach_from-requires-clause-alone
detach_from-requires-clause-alone c =
    let net : NetData = c.args.parts.now in
    let here : c.deref.result.now ≡ net.links = c.deref.ensures.value ∙ ap (λ (n : NetData). n.links) c.parts.view_is in
    let owns : option_map_or (λ l. l.controller) (find_link c.args.port.now net.links) None ≡ Some c.in-Some.controller =
    ap (λ (ls : List Link). option_map_or (λ l. l.controller) (find_link c.args.port.now ls) None) (sym here) ∙ sym c.controller_of.ensures ∙ c.in-Some.is in
    free_but_for net c.requires c.args.port.now c.in-Some.controller owns
