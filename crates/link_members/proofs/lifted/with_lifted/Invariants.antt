use Rattle.std.proofs.Common.{◌≡◌, map, take}
use Rattle.merge_model.specs.Lifted.{raised}
use Rattle.link_members.proofs.lifted.with_lifted.Given as goal

-- those so far
abbrev pub invariant-loop-at : goal.invariant-loop-at
invariant-loop-at l = l.raised.items ≡ map (raised l.members) (take l.at l.members)
