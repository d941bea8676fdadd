use Rattle.std.proofs.Common.{◌≡◌, map, take}
use Rattle.merge_model.specs.Members.{is_gone}
use Rattle.link_order.proofs.ranking.gone.Given as goal

-- the marks of the links so far
abbrev pub invariant-loop-at : goal.invariant-loop-at
invariant-loop-at l = l.gone.items ≡ map (is_gone l.net.links l.entries) (take l.at l.net.links)
