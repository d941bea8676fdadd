use Rattle.std.proofs.Common.{◌≡◌, ℕ, List, take}
use Rattle.net_index.specs.InIndex.{listed}
use Rattle.net_model.specs.OfName.{over}
use Rattle.net_index.proofs.build.add_bases.Given as goal

-- the lists of those so far
abbrev pub invariant-loop-at : goal.invariant-loop-at
invariant-loop-at l = (k : List ℕ) → listed l.index k ≡ over (take l.at l.links) k
