use Rattle.link_fields.specs.Bases.{Knows}
use Rattle.link_fields.proofs.bases.settled.Given as goal

-- what is known so far
abbrev pub invariant-loop-at : goal.invariant-loop-at
invariant-loop-at l = Knows l.members l.known.items
