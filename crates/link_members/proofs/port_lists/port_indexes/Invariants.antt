use Rattle.std.proofs.Common.{◌≡◌, map, take}
use Rattle.link_members.specs.Listers.{port_names}
use Rattle.link_members.proofs.port_lists.port_indexes.Given as goal

-- the lists of the links so far
abbrev pub invariant-loop-member : goal.invariant-loop-member
invariant-loop-member l = l.indexes.items ≡ map port_names (take l.member-index l.members)
