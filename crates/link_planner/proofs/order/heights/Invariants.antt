use Rattle.std.proofs.Common.{◌≡◌, map, take}
use Rattle.link_planner.specs.Depths.{by_top}
use Rattle.link_planner.proofs.order.heights.Given as goal

-- the places of the links so far
abbrev pub invariant-loop-at : goal.invariant-loop-at
invariant-loop-at l = l.places.items ≡ map (by_top l.net.links) (take l.at l.net.links)
