use Rattle.net_model.specs.Arrows.{Draws}
use Rattle.net_valid.proofs.graph.add_arrows.Given as goal

-- the arrows of the links so far
abbrev pub invariant-loop-at : goal.invariant-loop-at
invariant-loop-at l = Draws l.links l.at l.at l.arrows
