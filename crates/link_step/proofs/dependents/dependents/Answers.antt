use Rattle.std.proofs.Common.{rules, ◌≡◌, ◌∙◌, ◌+◌, ◌++◌, ◌∷◌, [], ℕ, Bool, List, length, take, drop, sym, ap, subst, arith, length-append}
use Rattle.std.proofs.lemmas.List.{take_at}
use Rattle.reach.specs.Reach.{unmarked}
use Rattle.reach.proofs.lemmas.Positions.{at_some}
use Rattle.net_model.specs.declared.link.Link.{Link}
use Rattle.net_model.proofs.lemmas.Found.{names_differ-rises}
use Rattle.link_step.proofs.Walking.{Climbs, climbs_on, climbs_done, left_inside}
use Rattle.link_step.proofs.dependents.dependents.Goals as goal

pub follow-requires-clause-whole : goal.follow-requires-clause-whole
follow-requires-clause-whole c = ap length c.deref_mut.ensures.value ∙ (c.loop-place.invariant (at_some c.args.net.now.links c.args.at c.requires)).long

pub follow-requires-clause-inside : goal.follow-requires-clause-inside
follow-requires-clause-inside c =
    let d : Link = at_some c.args.net.now.links c.args.at c.requires in
    left_inside c.args.net.now.links d c.args.at c.loop-place.marks.items c.loop-place.left.items c.pop.new.self.items c.in-Some.place c.in-Some.ensures.items (c.loop-place.invariant d)

pub loop-place-smaller : goal.loop-place-smaller
loop-place-smaller c =
    let d : Link = at_some c.args.net.now.links c.args.at c.requires in
    let m = c.in_ok-follow.ensures d in
    let back : take c.loop-place.marks.len (c.follow.new.marks ++ drop (length c.follow.new.marks) c.loop-place.marks.items) ≡ c.follow.new.marks = take_at c.follow.new.marks _ _ (omega (arith, m.grows.long, c.deref_mut.ensures.len)) in
    let size : length c.loop-place.left.items ≡ length c.pop.new.self.items + 1 = ap length c.in-Some.ensures.items ∙ length-append c.pop.new.self.items (c.in-Some.place ∷ []) in
    omega (arith, m.grows.no_more, ap unmarked back, ap unmarked c.deref_mut.ensures.value, size)

pub loop-place-preserved : goal.loop-place-preserved
loop-place-preserved c = λ d.
    let links : List Link = c.args.net.now.links in
    let m = c.in_ok-follow.ensures d in
    let back : take c.loop-place.marks.len (c.follow.new.marks ++ drop (length c.follow.new.marks) c.loop-place.marks.items) ≡ c.follow.new.marks = take_at c.follow.new.marks _ _ (omega (arith, m.grows.long, c.deref_mut.ensures.len)) in
    subst (λ (ms : List Bool). Climbs links d c.args.at ms c.follow.new.left.items) (sym {A = List Bool} back)
    (climbs_on links d (names_differ-rises links c.laws.ensures.net.in_order.links) c.args.at c.requires c.deref_mut.result.now c.follow.new.marks c.loop-place.left.items c.pop.new.self.items c.follow.new.left.items c.in-Some.place c.in-Some.ensures.items
    (subst (λ (ms : List Bool). Climbs links d c.args.at ms c.loop-place.left.items) (sym {A = List Bool} c.deref_mut.ensures.value) (c.loop-place.invariant d)) m)

pub returns-clause-long : goal.returns-clause-long
returns-clause-long c = (c.loop-place.invariant (at_some c.args.net.now.links c.args.at c.requires)).long

pub returns-clause-dependents : goal.returns-clause-dependents
returns-clause-dependents c = λ d.
    let links : List Link = c.args.net.now.links in
    let none : length c.loop-place.left.items ≡ 0 = search rules in
    climbs_done links d (names_differ-rises links c.laws.ensures.net.in_order.links) c.args.at c.requires c.loop-place.marks.items c.loop-place.left.items none (c.loop-place.invariant d)
