use Rattle.link_fields.specs.Bases.{Gives}
use Rattle.link_fields.proofs.bases.all_shallow.Given as goal

-- those so far
abbrev pub invariant-loop-at : goal.invariant-loop-at
invariant-loop-at l = Gives l.members 0 l.at l.all.items
