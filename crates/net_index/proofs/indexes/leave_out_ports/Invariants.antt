use Rattle.std.proofs.Common.{◌≡◌, ℕ, List, not, filter, take}
use Rattle.net_model.specs.Words.{is_among}
use Rattle.net_model.specs.Links.{ports_of}
use Rattle.net_index.specs.InIndex.{listed}
use Rattle.net_index.proofs.indexes.leave_out_ports.Given as goal

-- the names so far are out of all lists
abbrev pub invariant-loop-at : goal.invariant-loop-at
invariant-loop-at l = (k : List ℕ) → listed l.index k ≡ filter (λ n. not (is_among (take l.at l.goes) n)) (ports_of l.links k)
