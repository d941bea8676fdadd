use Rattle.std.proofs.Common.{arith}
use Rattle.merge_model.proofs.lemmas.Steps.{once_route_one}
use Rattle.route_merge.proofs.routes.once.Goals as goal

pub keep-requires : goal.keep-requires
keep-requires c = c.loop-route.invariant.0

pub loop-route-preserved : goal.loop-route-preserved
loop-route-preserved c = (c.in_ok-keep.ensures.seen, rw (once_route_one c.args.routes.now c.loop-route.route-index c.route-item.result (omega (arith, c.loop-route-test.true)) c.route-item.is, ← c.loop-route.invariant.1) c.in_ok-keep.ensures.kept)
