use Rattle.std.proofs.Common.{arith, sym, ap, ◌∙◌}
use Rattle.merge_model.specs.Members.{implied_by}
use Rattle.link_order.proofs.Ends.{end_more}
use Rattle.link_order.proofs.implied.implied.Goals as goal

pub loop-member-preserved : goal.loop-member-preserved
loop-member-preserved c = record {
  members = rw (end_more (implied_by c.args.net.now.links c.args.entries.now) c.args.made.now c.loop-member.member-index c.member-item.result (omega (arith, c.loop-member-test.true)) c.member-item.is, ← c.loop-member.invariant.members, ← c.implied_by.ensures) c.in_ok-push_implied.ensures.members;
  names = c.in_ok-push_implied.ensures.names;
}
