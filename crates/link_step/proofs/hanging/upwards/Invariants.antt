use Rattle.std.proofs.Common.{◌-◌, length}
use Rattle.link_step.proofs.Upwards.{Climbing}
use Rattle.link_step.proofs.hanging.upwards.Given as goal

abbrev pub invariant-loop-at : goal.invariant-loop-at
invariant-loop-at l = Climbing l.which l.parts.links l.root l.at l.names.items

abbrev pub decreases-loop-at : goal.decreases-loop-at
decreases-loop-at l = length l.parts.links - l.at
