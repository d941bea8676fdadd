use Rattle.std.proofs.Common.{take, subst, sym, arith}
use Rattle.merge_model.proofs.lemmas.Steps.{take_one}
use Rattle.route_merge.specs.Keys.{HasKeys}
use Rattle.route_merge.proofs.SameKeys.{one_key_more}
use Rattle.route_merge.proofs.keys.keys_of.Goals as goal

pub loop-route-preserved : goal.loop-route-preserved
loop-route-preserved c = subst (HasKeys c.insert.new.self) (sym (take_one c.args.routes.now c.loop-route.route-index c.route-item.result (omega (arith, c.loop-route-test.true)) c.route-item.is))
    (one_key_more (take c.loop-route.route-index c.args.routes.now) c.route-item.result c.key_of.result c.loop-route.keys c.insert.new.self c.key_of.ensures c.loop-route.invariant c.in_ok-insert.ensures.updates)
