use Rattle.std.proofs.Common.{◌≡◌, ◌∙◌, List, Some, false, sym, ap}
use Rattle.std.specs.List.{list_any}
use Rattle.net_model.specs.Links.{find_link}
use Rattle.net_model.specs.Lists.{NetData}
use Rattle.net_model.specs.declared.link.Link.{Link}
use Rattle.net_model.specs.declared.route.Route.{Route}
use Rattle.net_model.proofs.lemmas.Found.{names_differ-rises}
use Rattle.kernel_step.specs.Leaning.{is_cut_off}
use Rattle.kernel_step.proofs.OnLink.{none_long, all_stay, none_lost}
use Rattle.kernel_step.proofs.addresses.may_lose_routes.Goals as goal

pub returns-then-is_empty : goal.returns-then-is_empty
returns-then-is_empty c = λ h.
    all_stay c.args.name.now c.args.parts.now.links c.args.parts.now.routes (sym c.routes_of.ensures.keys ∙ none_long c.routes_of.result.now (sym c.is_empty.ensures ∙ c.if-is_empty.true))

pub returns-in-Some : goal.returns-in-Some
returns-in-Some c = λ h.
    let net : NetData = c.args.parts.now in
    let link : Link = c.in-Some.link.now in
    let links : c.deref.result.now ≡ net.links = c.deref.ensures.value ∙ ap (λ (n : NetData). n.links) c.parts.view_is in
    let routes : c.deref-in-Some.result.now ≡ net.routes = c.deref-in-Some.ensures.value ∙ ap (λ (n : NetData). n.routes) c.parts.view_is in
    let found : find_link c.args.name.now net.links ≡ Some link = sym (c.in-Some.ensures ∙ ap (λ (ls : List Link). find_link c.args.name.now ls) links) in
    let none : list_any (is_cut_off c.args.gone.now link) net.routes ≡ false = ap (λ (rs : List Route). list_any (is_cut_off c.args.gone.now link) rs) (sym routes) ∙ sym c.has_cut_off.ensures ∙ h in
    none_lost c.args.gone.now c.args.name.now net.links link (names_differ-rises net.links c.requires.links) found net.routes c.requires.leaning none
