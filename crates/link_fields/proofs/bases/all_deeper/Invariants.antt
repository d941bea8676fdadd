use Rattle.std.proofs.Common.{◌+◌}
use Rattle.link_fields.specs.Bases.{Gives}
use Rattle.link_fields.proofs.bases.all_deeper.Given as goal

-- those so far
abbrev pub invariant-loop-at : goal.invariant-loop-at
invariant-loop-at l = Gives l.members (l.steps + 1) l.at l.all.items
