use Rattle.std.proofs.Common.{◌≡◌, map, take}
use Rattle.link_members.specs.Lifts.{held_names, unstated_places}
use Rattle.link_members.proofs.lifted.arrows.Given as goal

-- the rows of the links so far
abbrev pub invariant-loop-member : goal.invariant-loop-member
invariant-loop-member l = l.arrows.items ≡ map (λ m. unstated_places l.members (held_names m)) (take l.member-index l.members)
