use Rattle.std.proofs.Common.{arith, ◌+◌, ap, subst, ◌∙◌, length}
use Rattle.net_model.specs.Lists.{NetData}
use Rattle.link_planner.specs.Depths.{AreOrders}
use Rattle.link_planner.specs.declared.phase.Phase.TheVariants.{DetachPorts, TakeLinksDown, DeleteLinks}
use Rattle.link_planner.specs.Drafts.{Advances}
use Rattle.link_planner.specs.Shrinking.{IsShrunk}
use Rattle.link_planner.specs.Phases.{most}
use Rattle.link_planner.proofs.lemmas.Advancing.{advances_more}
use Rattle.link_planner.proofs.Phasing.{few}
use Rattle.link_planner.proofs.Shrunk.{shrunk_more}
use Rattle.link_planner.proofs.Joint.{cleared}
use Rattle.link_planner.proofs.plan.take_away.Goals as goal

pub returns-clause-toward : goal.returns-clause-toward
returns-clause-toward g c =
    let later : IsShrunk c.run.new.draft.net c.delete_links.new.draft.net = shrunk_more c.run.new.draft.net c.run-2.new.draft.net c.delete_links.new.draft.net c.in_ok-run-2.ensures.moves.shrunk c.in_ok-delete_links.ensures.moves.shrunk in
    let advances : Advances ((most DetachPorts c.args.draft.now.target c.deref.result.now) + ((most TakeLinksDown c.run.new.draft.target c.deref-2.result.now) + (most DeleteLinks c.run-2.new.draft.target c.deref-3.result.now))) c.args.draft.now c.delete_links.new.draft =
    advances_more (most DetachPorts c.args.draft.now.target c.deref.result.now) ((most TakeLinksDown c.run.new.draft.target c.deref-2.result.now) + (most DeleteLinks c.run-2.new.draft.target c.deref-3.result.now)) c.args.draft.now c.run.new.draft c.delete_links.new.draft c.in_ok-run.ensures.advances (advances_more (most TakeLinksDown c.run.new.draft.target c.deref-2.result.now) (most DeleteLinks c.run-2.new.draft.target c.deref-3.result.now) c.run.new.draft c.run-2.new.draft c.delete_links.new.draft c.in_ok-run-2.ensures.advances c.in_ok-delete_links.ensures.advances) in
    cleared ((most DetachPorts c.args.draft.now.target c.deref.result.now) + ((most TakeLinksDown c.run.new.draft.target c.deref-2.result.now) + (most DeleteLinks c.run-2.new.draft.target c.deref-3.result.now))) c.args.draft.now c.delete_links.new.draft advances c.laws.ensures c.requires (shrunk_more c.args.draft.now.net c.run.new.draft.net c.delete_links.new.draft.net c.in_ok-run.ensures.moves.shrunk later) c.in_ok-delete_links.ensures.stands

pub returns-clause-advances : goal.returns-clause-advances
returns-clause-advances g c =
    let o : AreOrders c.args.draft.now.start.links c.in_ok-orders.orders.names.items c.in_ok-orders.orders.upward.items c.in_ok-orders.orders.downward.items = subst (λ (n : NetData). AreOrders n.links c.in_ok-orders.orders.names.items c.in_ok-orders.orders.upward.items c.in_ok-orders.orders.downward.items) c.start.ensures c.in_ok-orders.ensures in
    record {
      start = c.in_ok-delete_links.ensures.advances.start ∙ c.in_ok-run-2.ensures.advances.start ∙ c.in_ok-run.ensures.advances.start;
      target = c.in_ok-delete_links.ensures.advances.target ∙ c.in_ok-run-2.ensures.advances.target ∙ c.in_ok-run.ensures.advances.target;
      count = omega (arith, c.in_ok-run.ensures.advances.count, c.in_ok-run-2.ensures.advances.count, c.in_ok-delete_links.ensures.advances.count, few DetachPorts c.args.draft.now.target c.deref.result.now, few TakeLinksDown c.run.new.draft.target c.deref-2.result.now, few DeleteLinks c.run-2.new.draft.target c.deref-3.result.now, ap length c.deref.ensures.value, ap length c.deref-2.ensures.value, ap length c.deref-3.ensures.value, o.count, o.count_upward, o.count_downward);
    }
