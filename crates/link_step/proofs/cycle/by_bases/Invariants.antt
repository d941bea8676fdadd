use Rattle.link_step.proofs.Bases.{Follows}
use Rattle.link_step.proofs.cycle.by_bases.Given as goal

abbrev pub invariant-loop : goal.invariant-loop
invariant-loop l = Follows l.net.links l.port l.controller l.name
