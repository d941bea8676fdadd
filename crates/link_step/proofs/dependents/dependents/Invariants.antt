use Rattle.std.proofs.Common.{◌+◌, length}
use Rattle.reach.specs.Reach.{unmarked}
use Rattle.net_model.specs.declared.link.Link.{Link}
use Rattle.link_step.proofs.Walking.{Climbs}
use Rattle.link_step.proofs.dependents.dependents.Given as goal

-- each that is marked is left, or all that depends on it is marked
abbrev pub invariant-loop-place : goal.invariant-loop-place
invariant-loop-place l = (d : Link) → Climbs l.net.links d l.at l.marks.items l.left.items

abbrev pub decreases-loop-place : goal.decreases-loop-place
decreases-loop-place l = unmarked l.marks.items + length l.left.items
