use Rattle.std.proofs.Common.{◌≡◌, replicate, []}
use Rattle.net_valid.proofs.graph.no_arrows.Given as goal

-- none so far
abbrev pub invariant-loop : goal.invariant-loop
invariant-loop l = l.arrows.items ≡ replicate l.counter []
