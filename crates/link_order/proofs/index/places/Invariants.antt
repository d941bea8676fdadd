use Rattle.std.proofs.Common.{take}
use Rattle.link_order.specs.Index.{HasPlaces}
use Rattle.link_order.proofs.index.places.Given as goal

-- the places of the names so far
abbrev pub invariant-loop-at : goal.invariant-loop-at
invariant-loop-at l = HasPlaces (take l.at l.names) l.places
