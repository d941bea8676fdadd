use Rattle.std.proofs.Common.{◌≡◌, ◌++◌, map, filter, take}
use Rattle.std.specs.List.{filter_map}
use Rattle.merge_model.specs.Members.{entered_over, stays, left_alone, implied}
use Rattle.link_order.proofs.ranking.members_by_rank.Given as goal

-- those that the entries make, those that these imply, and those that stay of the links so far
abbrev pub invariant-loop-at : goal.invariant-loop-at
invariant-loop-at l = l.members.items ≡ filter_map (entered_over l.net.links) l.entries ++ (implied l.net.links l.entries ++ map left_alone (filter (stays l.net.links l.entries) (take l.at l.links)))
