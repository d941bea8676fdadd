use Rattle.std.proofs.Common.{◌≡◌, ◌∙◌, Some, List, sym, ap}
use Rattle.net_model.specs.Links.{find_link}
use Rattle.net_model.specs.declared.link.Link.{Link}
use Rattle.link_step.proofs.Bases.{follows_base, base_cycles, leaf_ends, bond_ends}
use Rattle.link_step.proofs.cycle.by_bases.Goals as goal

pub returns-then-is_leaf : goal.returns-then-is_leaf
returns-then-is_leaf c =
    let net = c.args.net.now in
    let found : find_link c.loop.name net.links ≡ Some c.in-Some.link.now = sym (c.in-Some.ensures ∙ ap (λ (ls : List Link). find_link c.loop.name ls) (c.deref.ensures.value ∙ c.links-links.ensures)) in
    leaf_ends net c.laws.ensures.net c.args.port.now c.args.controller.now c.loop.name c.in-Some.link.now c.loop.invariant found c.requires.there c.requires.other (sym c.is_leaf.ensures ∙ c.if-is_leaf.true)

pub returns-then-is_bond : goal.returns-then-is_bond
returns-then-is_bond c =
    let net = c.args.net.now in
    let found : find_link c.loop.name net.links ≡ Some c.in-Some.link.now = sym (c.in-Some.ensures ∙ ap (λ (ls : List Link). find_link c.loop.name ls) (c.deref.ensures.value ∙ c.links-links.ensures)) in
    c.is_port_of_bond.ensures
    ∙ bond_ends net c.laws.ensures.net c.args.port.now c.args.controller.now c.loop.name c.in-Some.link.now c.loop.invariant found c.requires.there c.requires.other (sym c.is_bond.ensures ∙ c.if-is_bond.true)

pub returns-then-eq : goal.returns-then-eq
returns-then-eq c =
    let net = c.args.net.now in
    let found : find_link c.loop.name net.links ≡ Some c.in-Some.link.now = sym (c.in-Some.ensures ∙ ap (λ (ls : List Link). find_link c.loop.name ls) (c.deref.ensures.value ∙ c.links-links.ensures)) in
    base_cycles net c.laws.ensures.net c.args.port.now c.args.controller.now c.loop.name c.in-Some.link.now c.loop.invariant found c.requires.there c.requires.other c.in-Vlan.base c.in-Vlan.id c.in-Vlan.proto c.in-Vlan.is (sym c.eq.ensures ∙ c.if-eq.true)

pub loop-preserved : goal.loop-preserved
loop-preserved c =
    let net = c.args.net.now in
    let found : find_link c.loop.name net.links ≡ Some c.in-Some.link.now = sym (c.in-Some.ensures ∙ ap (λ (ls : List Link). find_link c.loop.name ls) (c.deref.ensures.value ∙ c.links-links.ensures)) in
    follows_base net c.laws.ensures.net c.args.port.now c.args.controller.now c.loop.name c.in-Some.link.now c.loop.invariant found c.in-Vlan.base c.in-Vlan.id c.in-Vlan.proto c.in-Vlan.is (sym c.eq.ensures ∙ c.if-eq.false)
