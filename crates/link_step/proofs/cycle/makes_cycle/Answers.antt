use Rattle.std.proofs.Common.{◌≡◌, ◌∙◌, ℕ, List, length, get_or, sym, ap, subst}
use Rattle.net_model.specs.Dependence.{reaches}
use Rattle.net_model.specs.declared.link.Link.{Link}
use Rattle.net_model.proofs.lemmas.Found.{one_name}
use Rattle.reach.proofs.lemmas.Positions.{at_some}
use Rattle.net_model.specs.Positions.{IsAt}
use Rattle.link_step.proofs.Cycles.{itself_cycles, reaching_cycles}
use Rattle.link_step.proofs.Walking.{other_place}
use Rattle.link_step.proofs.cycle.makes_cycle.Goals as goal

pub returns-then-eq : goal.returns-then-eq
returns-then-eq c = sym (itself_cycles c.args.net.now c.laws.ensures.net c.args.port.now c.args.controller.now c.requires (sym c.eq.ensures ∙ c.if-eq.true))

pub reaches-requires-clause-other : goal.reaches-requires-clause-other
reaches-requires-clause-other c =
    let links : List Link = c.args.net.now.links in
    let at : IsAt c.args.controller.now links c.in-Some-place_of.at = subst (λ (ls : List Link). IsAt c.args.controller.now ls c.in-Some-place_of.at) (c.deref.ensures.value ∙ c.links-links.ensures) c.in-Some-place_of.ensures in
    let below : IsAt c.args.port.now links c.in-Some-place_of-2.below = subst (λ (ls : List Link). IsAt c.args.port.now ls c.in-Some-place_of-2.below) (c.deref-2.ensures.value ∙ c.links-links.ensures) c.in-Some-place_of-2.ensures in
    other_place links (at_some links c.in-Some-place_of.at at.inside) c.args.port.now c.args.controller.now c.in-Some-place_of-2.below c.in-Some-place_of.at below at (sym c.eq.ensures ∙ c.if-eq.false)

pub returns : goal.returns
returns c =
    let net = c.args.net.now in
    let links : List Link = net.links in
    let i : ℕ = c.in-Some-place_of.at in
    let k : ℕ = c.in-Some-place_of-2.below in
    let at : IsAt c.args.controller.now links i = subst (λ (ls : List Link). IsAt c.args.controller.now ls i) (c.deref.ensures.value ∙ c.links-links.ensures) c.in-Some-place_of.ensures in
    let below : IsAt c.args.port.now links k = subst (λ (ls : List Link). IsAt c.args.port.now ls k) (c.deref-2.ensures.value ∙ c.links-links.ensures) c.in-Some-place_of-2.ensures in
    let d : Link = at_some links i at.inside in
    c.in_ok-reached.ensures d
    ∙ ap (λ (n : List ℕ). reaches links (length links) n (get_or links i d)) (one_name (get_or links k d).name c.args.port.now (below.named d))
    ∙ sym (reaching_cycles net c.laws.ensures.net c.args.port.now c.args.controller.now i d c.requires (sym c.eq.ensures ∙ c.if-eq.false) at)
