use Rattle.std.proofs.Common.{subst, arith}
use Rattle.reach.specs.Walk.{Meets, Comes}
use Rattle.reach.proofs.lemmas.Walking.{walks_first, all_founded, entered_more}
use Rattle.reach.proofs.cycle.has_cycle.Goals as goal

pub loop-place-init : goal.loop-place-init
loop-place-init c = record {
  rests = walks_first c.args.arrows.now c.in_ok-walk.walk c.in_ok-walk.ensures;
  there = λ k h. absurd (omega (arith, h));
}

pub loop-place-preserved : goal.loop-place-preserved
loop-place-preserved c =
    let came = subst (λ b. Meets b c.args.arrows.now (Comes c.args.arrows.now c.loop-place.place c.loop-place.walk c.start.new.self)) c.if-cycle.false c.in_ok-cycle.ensures in
    record {
      rests = came.rests;
      there = entered_more c.args.arrows.now c.loop-place.place c.loop-place.walk c.start.new.self came c.loop-place.invariant.there;
    }

pub returns : goal.returns
returns c = all_founded c.args.arrows.now c.loop-place.walk c.loop-place.invariant.rests (λ i lt. c.loop-place.invariant.there i (omega (arith, lt, c.loop-place-test.false)))
