use Rattle.std.proofs.Common.{length, arith, ap, ◌∙◌}
use Rattle.std.proofs.lemmas.List.{length-map}
use Rattle.reach.specs.Reach.{is_reached}
use Rattle.merge_model.specs.Members.{goes_with, is_dropped}
use Rattle.link_order.proofs.lemmas.Marked.{either_more}
use Rattle.link_order.proofs.ranking.gone.Goals as goal

pub loop-at-preserved : goal.loop-at-preserved
loop-at-preserved c =
    let links = c.args.net.now.links in
    let es = c.args.entries.now in
    c.in_ok-push.ensures.items
    ∙ either_more (is_dropped links es) (is_reached (goes_with es) (is_dropped links es) links (length links)) links c.loop-at.at c.in_ok-starts.starts.items c.in_ok-reached.reached.items
    c.index.result.now c.index-in-loop-at.result.now c.either.result c.loop-at.gone.items (omega (arith, c.loop-at-test.true, ap length c.in_ok-starts.ensures ∙ length-map links (is_dropped links es))) c.in_ok-starts.ensures c.in_ok-reached.ensures
    c.index.ensures c.index-in-loop-at.ensures c.either.ensures c.loop-at.invariant
