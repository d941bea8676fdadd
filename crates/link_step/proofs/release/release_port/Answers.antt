use Rattle.std.proofs.Common.{◌≡◌, ◌∙◌, ℕ, List, [], ◌∷◌, Some, None, sym, ap, subst}
use Rattle.std.specs.Prelude.{is_some}
use Rattle.std.specs.Option.{option_map_or}
use Rattle.net_model.specs.Links.{find_link, named_passes}
use Rattle.net_model.specs.NetData.{NetData}
use Rattle.net_model.specs.declared.link.Link.{Link}
use Rattle.net_model.proofs.lemmas.Found.{names_differ-rises}
use Rattle.link_step.specs.Releasing.{Releases}
use Rattle.link_step.proofs.Primaries.{free_but_for}
use Rattle.link_step.proofs.Detached.{port_free}
use Rattle.link_step.proofs.Released.{released_none, releases_port, uncontrolled}
use Rattle.link_step.proofs.release.release_port.Goals as goal

pub detach_from-requires-clause-alone : goal.detach_from-requires-clause-alone
detach_from-requires-clause-alone c =
    let net : NetData = c.args.parts.now in
    let here : c.deref.result.now ≡ net.links = c.deref.ensures.value ∙ ap (λ (n : NetData). n.links) c.parts.view_is in
    let owns : option_map_or (λ l. l.controller) (find_link c.args.name.now net.links) None ≡ Some c.in-Some.controller =
    ap (λ (ls : List Link). option_map_or (λ l. l.controller) (find_link c.args.name.now ls) None) (sym here) ∙ sym c.controller_of.ensures ∙ c.in-Some.is in
    free_but_for net c.requires c.args.name.now c.in-Some.controller owns

pub returns-in-Some-clause-released : goal.returns-in-Some-clause-released
returns-in-Some-clause-released c =
    let net : NetData = c.args.parts.now in
    let name : List ℕ = c.args.name.now in
    let here : c.deref.result.now ≡ net.links = c.deref.ensures.value ∙ ap (λ (n : NetData). n.links) c.parts.view_is in
    let owns : option_map_or (λ l. l.controller) (find_link name net.links) None ≡ Some c.in-Some.controller =
    ap (λ (ls : List Link). option_map_or (λ l. l.controller) (find_link name ls) None) (sym here) ∙ sym c.controller_of.ensures ∙ c.in-Some.is in
    subst (λ (n : NetData). Releases (name ∷ []) net n) (sym {A = NetData} c.detach_from.ensures) (releases_port net c.requires name c.in-Some.controller owns)

pub returns-in-Some-clause-free : goal.returns-in-Some-clause-free
returns-in-Some-clause-free c =
    let net : NetData = c.args.parts.now in
    let name : List ℕ = c.args.name.now in
    ap (λ (n : NetData). named_passes (λ l. is_some l.controller) n.links name) c.detach_from.ensures ∙ port_free name net.links

pub returns-in-None-clause-released : goal.returns-in-None-clause-released
returns-in-None-clause-released c = released_none (c.args.name.now ∷ []) c.args.parts.now c.requires

pub returns-in-None-clause-free : goal.returns-in-None-clause-free
returns-in-None-clause-free c =
    let net : NetData = c.args.parts.now in
    let name : List ℕ = c.args.name.now in
    let here : c.deref.result.now ≡ net.links = c.deref.ensures.value ∙ ap (λ (n : NetData). n.links) c.parts.view_is in
    let none : option_map_or (λ (l : Link). l.controller) (find_link name net.links) None ≡ None =
    ap (λ (ls : List Link). option_map_or (λ (l : Link). l.controller) (find_link name ls) None) (sym here) ∙ sym c.controller_of.ensures ∙ c.in-None.is in
    uncontrolled net.links name (names_differ-rises net.links c.requires.in_order.links) none
