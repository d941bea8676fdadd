use Rattle.std.proofs.Common.{length}
use Rattle.link_fields.specs.Bases.{Gives}
use Rattle.link_fields.proofs.bases.followed.Given as goal

-- looking so many bases down
abbrev pub invariant-loop-steps : goal.invariant-loop-steps
invariant-loop-steps l = Gives l.members l.steps (length l.members) l.all.items
