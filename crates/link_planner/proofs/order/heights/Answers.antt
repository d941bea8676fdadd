use Rattle.std.proofs.Common.{rules, ◌≡◌, ◌<◌, ℕ, List, [], ◌∷◌, ◌++◌, length, ap, ◌∙◌, arith}
use Rattle.link_planner.specs.Depths.{by_top}
use Rattle.link_planner.proofs.Noting.{one_more}
use Rattle.link_planner.proofs.order.heights.Goals as goal

pub loop-at-preserved : goal.loop-at-preserved
loop-at-preserved c =
    let count : c.len-at-end.result ≡ length c.args.net.now.links = search rules in
    let inside : c.loop-at.at < length c.args.net.now.links = omega (arith, c.loop-at-test.true, count) in
    c.in_ok-push.ensures.items
    ∙ ap (λ (r : List (ℕ × List ℕ)). r ++ c.by_top.result ∷ []) c.loop-at.invariant
    ∙ one_more (by_top c.args.net.now.links) c.args.net.now.links c.loop-at.at c.by_top.result inside c.by_top.ensures
