use Rattle.std.proofs.Common.{take, subst, sym, arith}
use Rattle.merge_model.proofs.lemmas.Steps.{take_one}
use Rattle.route_merge.specs.AbsentRoutes.{HasShapes, HasStated}
use Rattle.route_merge.proofs.absent_routes.AbsentRoutes.of.Goals as goal

pub loop-entry-preserved : goal.loop-entry-preserved
loop-entry-preserved c =
    let es = take c.loop-entry.entry-index c.args.entries.now in
    let more = sym (take_one c.args.entries.now c.loop-entry.entry-index c.entry-item.result (omega (arith, c.loop-entry-test.true)) c.entry-item.is) in (
      subst (HasShapes c.push_shape.new.shapes.items) more (c.in_ok-push_shape.ensures es c.loop-entry.invariant.0),
      subst (HasStated c.push_stated.new.set) more (c.in_ok-push_stated.ensures es c.loop-entry.invariant.1),
    )
