use Rattle.link_planner.proofs.Noting.{Noted}
use Rattle.link_planner.proofs.order.note.Given as goal

-- what is noted so far, and the depth to note next
abbrev pub invariant-loop-known : goal.invariant-loop-known
invariant-loop-known l = Noted l.net.links l.known l.at l.left

abbrev pub decreases-loop-known : goal.decreases-loop-known
decreases-loop-known l = l.left
