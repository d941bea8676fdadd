use Rattle.std.proofs.Common.{◌≡◌, ℕ, List, true, take}
use Rattle.std.specs.BTreeSet.{contains}
use Rattle.net_model.specs.Name.{same_bytes}
use Rattle.net_model.specs.Words.{apart, is_among}
use Rattle.net_model.specs.Order.{name_cmp}
use Rattle.link_rules.proofs.ports.differ.Given as goal

-- the set has the names so far, and they differ
abbrev pub invariant-loop-at : goal.invariant-loop-at
invariant-loop-at l = ((q : List ℕ) → contains name_cmp l.seen q ≡ is_among (take l.at l.names) q) × (apart same_bytes (take l.at l.names) ≡ true)
