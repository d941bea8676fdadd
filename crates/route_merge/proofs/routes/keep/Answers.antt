use Rattle.std.proofs.Common.{sym, ◌∙◌}
use Rattle.route_merge.proofs.SameKeys.{one_route_more, same_route_more, not_new}
use Rattle.route_merge.proofs.routes.keep.Goals as goal

pub returns-in_ok-push-clause-seen : goal.returns-in_ok-push-clause-seen
returns-in_ok-push-clause-seen c = rw c.in_ok-push.ensures (one_route_more c.args.kept.now.items c.args.route.now c.args.seen.now c.is_new.new.seen c.requires c.in_ok-is_new.ensures.updates)

pub returns-else-branch-clause-seen : goal.returns-else-branch-clause-seen
returns-else-branch-clause-seen c = same_route_more c.args.kept.now.items c.args.route.now c.args.seen.now c.is_new.new.seen c.requires (not_new c.args.seen.now c.args.route.now (sym c.in_ok-is_new.ensures.new ∙ c.if-branch.false)) c.in_ok-is_new.ensures.updates
