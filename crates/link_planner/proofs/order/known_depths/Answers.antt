use Rattle.std.proofs.Common.{rules, ◌≡◌, length, replicate, None, subst, sym}
use Rattle.link_planner.specs.Depths.{AreDepths}
use Rattle.link_planner.proofs.Noting.{none_known}
use Rattle.link_planner.proofs.order.known_depths.Goals as goal

pub loop-at-init : goal.loop-at-init
loop-at-init c =
    let count : c.len-count.result ≡ length c.args.net.now.links = search rules in
    let none : c.in_ok-known.known.items ≡ replicate c.len-count.result None = search rules in
    subst (AreDepths c.args.net.now.links) (sym none) (none_known c.args.net.now.links c.len-count.result count)
