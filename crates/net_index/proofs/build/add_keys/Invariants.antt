use Rattle.std.proofs.Common.{◌≡◌, ℕ, List, take}
use Rattle.net_index.specs.InIndex.{listed}
use Rattle.net_model.specs.OfName.{routes_of}
use Rattle.net_index.proofs.build.add_keys.Given as goal

-- the lists of those so far
abbrev pub invariant-loop-at : goal.invariant-loop-at
invariant-loop-at l = (k : List ℕ) → listed l.index k ≡ routes_of (take l.at l.routes) k
