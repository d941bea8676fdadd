use Rattle.std.proofs.Common.{◌≤◌, length}
use Rattle.link_fields.specs.Bases.{Knows}
use Rattle.link_fields.proofs.bases.note_all.Given as goal

-- what is known after those from here on
abbrev pub invariant-loop-left : goal.invariant-loop-left
invariant-loop-left l = (l.left ≤ length l.places) × Knows l.members l.known

abbrev pub decreases-loop-left : goal.decreases-loop-left
decreases-loop-left l = l.left
