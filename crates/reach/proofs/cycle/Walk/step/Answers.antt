use Rattle.std.proofs.Common.{◌≡◌, ◌∙◌, ◌<◌, ◌+◌, get_or, length, [], ap, subst, refl, set, false, true, arith}
use Rattle.reach.specs.Walk.{Enters}
use Rattle.reach.proofs.lemmas.Marks.{any_default}
use Rattle.reach.proofs.lemmas.Walking.{top_inside, settle_steps, advance_steps, enter_steps, leads_back, next_arrow, read_there}
use Rattle.reach.proofs.cycle.Walk.step.Goals as goal

pub returns-then-at-len : goal.returns-then-at-len
returns-then-at-len c =
    let w = c.args.self.now in
    let arrows = c.args.arrows.now in
    let inside : c.args.top < length arrows = top_inside arrows c.requires.graph w.entered.items w.settled.items w.next.items w.stack.items c.requires.walks c.args.top c.requires.top in
    let at : c.index-at.result.now ≡ get_or w.next.items c.args.top 0 = c.index-at.ensures ∙ any_default w.next.items c.args.top _ 0 (omega (arith, inside, c.requires.walks.all_next)) in
    let row : c.items-targets.result.now.items ≡ get_or arrows c.args.top [] = c.items-targets.ensures ∙ c.index-arrows-top.is ∙ any_default arrows c.args.top _ [] inside in
    settle_steps arrows c.requires.graph w c.settle.new.self c.requires.walks c.args.top c.requires.top (omega (arith, ap length row, c.len.ensures, c.if-at-len.true, at)) c.settle.ensures

pub index-requires : goal.index-requires
index-requires c =
    let a = next_arrow c.args.arrows.now c.requires.graph c.args.self.now c.requires.walks c.args.top c.requires.top c.index-at.result.now c.index-at.ensures c.index-arrows-top.result c.items-targets.result.now.items c.index-arrows-top.is c.items-targets.ensures (omega (arith, c.if-at-len.false, c.len.ensures)) c.index-target.result.now c.index-target.ensures in
    omega (arith, a.inside, c.requires.walks.all_settled)

pub returns-then-index : goal.returns-then-index
returns-then-index c =
    let w = c.args.self.now in
    let arrows = c.args.arrows.now in
    let a = next_arrow c.args.arrows.now c.requires.graph c.args.self.now c.requires.walks c.args.top c.requires.top c.index-at.result.now c.index-at.ensures c.index-arrows-top.result c.items-targets.result.now.items c.index-arrows-top.is c.items-targets.ensures (omega (arith, c.if-at-len.false, c.len.ensures)) c.index-target.result.now c.index-target.ensures in
    advance_steps arrows c.requires.graph w _ c.requires.walks c.args.top c.requires.top a.below
    (read_there arrows w c.args.top c.index-at.result.now c.index-target.result.now w.settled.items c.index.result.now true a c.requires.walks.all_settled c.index.ensures c.if-index.true)
    refl refl (ap (λ n. set w.next.items c.args.top (n + 1)) a.at) refl

pub index-requires-2 : goal.index-requires-2
index-requires-2 c =
    let a = next_arrow c.args.arrows.now c.requires.graph c.args.self.now c.requires.walks c.args.top c.requires.top c.index-at.result.now c.index-at.ensures c.index-arrows-top.result c.items-targets.result.now.items c.index-arrows-top.is c.items-targets.ensures (omega (arith, c.if-at-len.false, c.len.ensures)) c.index-target.result.now c.index-target.ensures in
    omega (arith, a.inside, c.requires.walks.all_entered)

pub returns-then-index-2 : goal.returns-then-index-2
returns-then-index-2 c =
    let w = c.args.self.now in
    let arrows = c.args.arrows.now in
    let a = next_arrow c.args.arrows.now c.requires.graph c.args.self.now c.requires.walks c.args.top c.requires.top c.index-at.result.now c.index-at.ensures c.index-arrows-top.result c.items-targets.result.now.items c.index-arrows-top.is c.items-targets.ensures (omega (arith, c.if-at-len.false, c.len.ensures)) c.index-target.result.now c.index-target.ensures in
    leads_back arrows c.requires.graph w.entered.items w.settled.items w.next.items w.stack.items c.requires.walks c.args.top (get_or w.next.items c.args.top 0) c.requires.top a.below
    (read_there arrows w c.args.top c.index-at.result.now c.index-target.result.now w.entered.items c.index-2.result.now true a c.requires.walks.all_entered c.index-2.ensures c.if-index-2.true)
    (read_there arrows w c.args.top c.index-at.result.now c.index-target.result.now w.settled.items c.index.result.now false a c.requires.walks.all_settled c.index.ensures c.if-index.false)

pub enter-requires : goal.enter-requires
enter-requires c =
    let a = next_arrow c.args.arrows.now c.requires.graph c.args.self.now c.requires.walks c.args.top c.requires.top c.index-at.result.now c.index-at.ensures c.index-arrows-top.result c.items-targets.result.now.items c.index-arrows-top.is c.items-targets.ensures (omega (arith, c.if-at-len.false, c.len.ensures)) c.index-target.result.now c.index-target.ensures in
    omega (arith, a.inside, c.requires.walks.all_entered)

pub returns : goal.returns
returns c =
    let w = c.args.self.now in
    let arrows = c.args.arrows.now in
    let a = next_arrow c.args.arrows.now c.requires.graph c.args.self.now c.requires.walks c.args.top c.requires.top c.index-at.result.now c.index-at.ensures c.index-arrows-top.result c.items-targets.result.now.items c.index-arrows-top.is c.items-targets.ensures (omega (arith, c.if-at-len.false, c.len.ensures)) c.index-target.result.now c.index-target.ensures in
    enter_steps arrows c.requires.graph w c.enter.new.self c.requires.walks c.args.top c.requires.top (get_or w.next.items c.args.top 0) a.below
    (read_there arrows w c.args.top c.index-at.result.now c.index-target.result.now w.entered.items c.index-2.result.now false a c.requires.walks.all_entered c.index-2.ensures c.if-index-2.false)
    (subst (λ p. Enters p w c.enter.new.self) a.is c.in_ok-enter.ensures)
