use Rattle.link_planner.specs.Depths.{AreDepths}
use Rattle.link_planner.proofs.order.known_depths.Given as goal

-- what is known so far is right
abbrev pub invariant-loop-at : goal.invariant-loop-at
invariant-loop-at l = AreDepths l.net.links l.known.items
