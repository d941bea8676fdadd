use Rattle.std.proofs.Common.{◌≡◌, take}
use Rattle.link_members.specs.Lifts.{unstated_places}
use Rattle.link_members.proofs.lifted.unstated_places.Given as goal

-- the places of the names so far
abbrev pub invariant-loop-name : goal.invariant-loop-name
invariant-loop-name l = l.places.items ≡ unstated_places l.members (take l.name-index l.names)
