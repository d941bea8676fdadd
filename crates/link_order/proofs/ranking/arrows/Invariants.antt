use Rattle.std.proofs.Common.{◌≡◌, []}
use Rattle.merge_model.specs.Members.{goes_with}
use Rattle.link_order.specs.Rows.{rows_to}
use Rattle.link_order.proofs.ranking.arrows.Given as goal

-- the arrows to the links so far
abbrev pub invariant-loop-at : goal.invariant-loop-at
invariant-loop-at l = l.arrows.items ≡ rows_to (λ k. []) (goes_with l.entries) l.net.links l.at
