use Rattle.std.proofs.Common.{length}
use Rattle.link_fields.specs.Bases.{Gives}
use Rattle.link_fields.proofs.bases.all_known.Given as goal

-- those so far
abbrev pub invariant-loop-at : goal.invariant-loop-at
invariant-loop-at l = Gives l.members (length l.members) l.at l.all.items
