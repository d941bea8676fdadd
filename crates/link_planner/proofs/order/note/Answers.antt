use Rattle.std.proofs.Common.{arith}
use Rattle.link_planner.proofs.Noting.{one_known, note_next, note_more}
use Rattle.link_planner.proofs.order.note.Goals as goal

pub loop-known-init : goal.loop-known-init
loop-known-init c = record { are = c.requires.known; inside = c.requires.inside; here = c.requires.depth }

pub offset_bounds-known-at : goal.offset_bounds-known-at
offset_bounds-known-at c = omega (arith, c.loop-known.invariant.inside, c.loop-known.invariant.are.each)

pub bounds-known-at : goal.bounds-known-at
bounds-known-at c = omega (arith, c.loop-known.invariant.inside, c.loop-known.invariant.are.each)

pub offset_bounds-known-at-in-loop-known : goal.offset_bounds-known-at-in-loop-known
offset_bounds-known-at-in-loop-known c = omega (arith, c.loop-known.invariant.inside, c.loop-known.invariant.are.each)

pub bounds-known-at-in-loop-known : goal.bounds-known-at-in-loop-known
bounds-known-at-in-loop-known c = omega (arith, c.loop-known.invariant.inside, c.loop-known.invariant.are.each)

pub base_at-requires : goal.base_at-requires
base_at-requires c = c.loop-known.invariant.inside

pub returns-in_default : goal.returns-in_default
returns-in_default c = one_known c.args.net.now.links c.loop-known.known c.loop-known.at c.loop-known.left c.loop-known.invariant.are c.loop-known.invariant.inside c.loop-known.invariant.here

pub overflow_sub-left : goal.overflow_sub-left
overflow_sub-left c =
    omega (arith, note_more c.args.net.now c.loop-known.known c.loop-known.at c.loop-known.left c.loop-known.invariant c.laws.ensures.facts c.in-Some.base c.in-Some.ensures)

pub loop-known-smaller : goal.loop-known-smaller
loop-known-smaller c =
    omega (arith, note_more c.args.net.now c.loop-known.known c.loop-known.at c.loop-known.left c.loop-known.invariant c.laws.ensures.facts c.in-Some.base c.in-Some.ensures)

pub loop-known-preserved : goal.loop-known-preserved
loop-known-preserved c = note_next c.args.net.now c.loop-known.known c.loop-known.at c.loop-known.left c.loop-known.invariant c.laws.ensures.facts c.in-Some.base c.in-Some.ensures

pub returns : goal.returns
returns c = c.loop-known.invariant.are
