use Rattle.std.proofs.Common.{arith, ◌≡◌, ap, subst, sym, ◌∙◌, length}
use Rattle.net_model.specs.NetData.{NetData, IsNet}
use Rattle.link_planner.specs.Depths.{AreOrders}
use Rattle.link_planner.specs.declared.phase.Phase.TheVariants.{CreateLinks, RaiseMtus, LowerMtus, SetMacs, AttachPorts, SetPorts, SetPrimaries, TakeLinksUp}
use Rattle.link_planner.proofs.Building.{Way, way_begun, way_more, links_reached}
use Rattle.link_planner.proofs.Counting.{both_counted}
use Rattle.link_planner.proofs.Phasing.{few}
use Rattle.link_planner.proofs.plan.build_up.Goals as goal

pub returns-clause-reached : goal.returns-clause-reached
returns-clause-reached g c =
    let w1 : Way c.args.draft.now c.create_links.new.draft = way_begun c.args.draft.now c.create_links.new.draft c.in_ok-create_links.ensures.moves in
    let w2 : Way c.args.draft.now c.run.new.draft = way_more c.args.draft.now c.create_links.new.draft c.run.new.draft w1 c.in_ok-run.ensures.advances.target c.in_ok-run.ensures.moves in
    let w3 : Way c.args.draft.now c.run-2.new.draft = way_more c.args.draft.now c.run.new.draft c.run-2.new.draft w2 c.in_ok-run-2.ensures.advances.target c.in_ok-run-2.ensures.moves in
    let w4 : Way c.args.draft.now c.run-3.new.draft = way_more c.args.draft.now c.run-2.new.draft c.run-3.new.draft w3 c.in_ok-run-3.ensures.advances.target c.in_ok-run-3.ensures.moves in
    let w5 : Way c.args.draft.now c.run-4.new.draft = way_more c.args.draft.now c.run-3.new.draft c.run-4.new.draft w4 c.in_ok-run-4.ensures.advances.target c.in_ok-run-4.ensures.moves in
    let w6 : Way c.args.draft.now c.run-5.new.draft = way_more c.args.draft.now c.run-4.new.draft c.run-5.new.draft w5 c.in_ok-run-5.ensures.advances.target c.in_ok-run-5.ensures.moves in
    let w7 : Way c.args.draft.now c.run-6.new.draft = way_more c.args.draft.now c.run-5.new.draft c.run-6.new.draft w6 c.in_ok-run-6.ensures.advances.target c.in_ok-run-6.ensures.moves in
    let w8 : Way c.args.draft.now c.run-7.new.draft = way_more c.args.draft.now c.run-6.new.draft c.run-7.new.draft w7 c.in_ok-run-7.ensures.advances.target c.in_ok-run-7.ensures.moves in
    let w9 : Way c.args.draft.now c.run-8.new.draft = way_more c.args.draft.now c.run-7.new.draft c.run-8.new.draft w8 c.in_ok-run-8.ensures.advances.target c.in_ok-run-8.ensures.moves in
    let w10 : Way c.args.draft.now c.run-9.new.draft = way_more c.args.draft.now c.run-8.new.draft c.run-9.new.draft w9 c.in_ok-run-9.ensures.advances.target c.in_ok-run-9.ensures.moves in
    links_reached c.run-9.new.draft c.laws.ensures c.in_ok-run-9.ensures.stands c.args.draft.now.net w10

pub returns-clause-advances : goal.returns-clause-advances
returns-clause-advances g c =
    let o : AreOrders c.args.draft.now.target.links c.in_ok-orders.orders.names.items c.in_ok-orders.orders.upward.items c.in_ok-orders.orders.downward.items = subst (λ (n : NetData). AreOrders n.links c.in_ok-orders.orders.names.items c.in_ok-orders.orders.upward.items c.in_ok-orders.orders.downward.items) c.target.ensures c.in_ok-orders.ensures in
    let target : c.run-3.new.draft.target ≡ c.run-9.new.draft.target = sym (c.in_ok-run-9.ensures.advances.target ∙ c.in_ok-run-8.ensures.advances.target ∙ c.in_ok-run-7.ensures.advances.target ∙ c.in_ok-run-6.ensures.advances.target ∙ c.in_ok-run-5.ensures.advances.target ∙ c.in_ok-run-4.ensures.advances.target) in
    let both = both_counted c.run-3.new.draft.target c.run-4.new.draft.target (subst IsNet (sym target) c.laws.ensures.target) c.in_ok-run-4.ensures.advances.target c.deref-5.result.now c.deref-6.result.now c.in_ok-orders.orders.names.items c.deref-5.ensures.value c.deref-6.ensures.value in
    record {
      start = c.in_ok-run-9.ensures.advances.start ∙ c.in_ok-run-8.ensures.advances.start ∙ c.in_ok-run-7.ensures.advances.start ∙ c.in_ok-run-6.ensures.advances.start ∙ c.in_ok-run-5.ensures.advances.start ∙ c.in_ok-run-4.ensures.advances.start ∙ c.in_ok-run-3.ensures.advances.start ∙ c.in_ok-run-2.ensures.advances.start ∙ c.in_ok-run.ensures.advances.start ∙ c.in_ok-create_links.ensures.advances.start;
      target = c.in_ok-run-9.ensures.advances.target ∙ c.in_ok-run-8.ensures.advances.target ∙ c.in_ok-run-7.ensures.advances.target ∙ c.in_ok-run-6.ensures.advances.target ∙ c.in_ok-run-5.ensures.advances.target ∙ c.in_ok-run-4.ensures.advances.target ∙ c.in_ok-run-3.ensures.advances.target ∙ c.in_ok-run-2.ensures.advances.target ∙ c.in_ok-run.ensures.advances.target ∙ c.in_ok-create_links.ensures.advances.target;
      count = omega (arith, c.in_ok-create_links.ensures.advances.count, c.in_ok-run.ensures.advances.count, c.in_ok-run-2.ensures.advances.count, c.in_ok-run-3.ensures.advances.count, c.in_ok-run-4.ensures.advances.count, c.in_ok-run-5.ensures.advances.count, c.in_ok-run-6.ensures.advances.count, c.in_ok-run-7.ensures.advances.count, c.in_ok-run-8.ensures.advances.count, c.in_ok-run-9.ensures.advances.count, few CreateLinks c.args.draft.now.target c.deref.result.now, few RaiseMtus c.create_links.new.draft.target c.deref-2.result.now, few LowerMtus c.run.new.draft.target c.deref-3.result.now, few SetMacs c.run-2.new.draft.target c.deref-4.result.now, few AttachPorts c.run-5.new.draft.target c.deref-7.result.now, few SetPorts c.run-6.new.draft.target c.deref-8.result.now, few SetPrimaries c.run-7.new.draft.target c.deref-9.result.now, few TakeLinksUp c.run-8.new.draft.target c.deref-10.result.now, ap length c.deref.ensures.value, ap length c.deref-2.ensures.value, ap length c.deref-3.ensures.value, ap length c.deref-4.ensures.value, ap length c.deref-5.ensures.value, ap length c.deref-6.ensures.value, ap length c.deref-7.ensures.value, ap length c.deref-8.ensures.value, ap length c.deref-9.ensures.value, ap length c.deref-10.ensures.value, o.count, o.count_upward, o.count_downward, both);
    }
