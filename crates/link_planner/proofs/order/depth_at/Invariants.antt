use Rattle.link_planner.proofs.Noting.{Walked}
use Rattle.link_planner.proofs.order.depth_at.Given as goal

-- the steps so far, and the depth of the link that they led to
abbrev pub invariant-loop-steps : goal.invariant-loop-steps
invariant-loop-steps l = Walked l.net.links l.start l.steps l.at
