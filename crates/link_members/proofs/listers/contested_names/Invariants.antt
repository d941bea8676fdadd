use Rattle.std.proofs.Common.{◌≡◌, ℕ, List, take}
use Rattle.std.specs.List.{list_any}
use Rattle.std.specs.BTreeSet.{contains}
use Rattle.net_model.specs.Order.{name_cmp}
use Rattle.link_members.specs.Listers.{rivals}
use Rattle.link_members.proofs.listers.contested_names.Given as goal

-- the names that a rival among the links so far lists
abbrev pub invariant-loop-at : goal.invariant-loop-at
invariant-loop-at l = (q : List ℕ) → contains name_cmp l.contested q ≡ list_any (rivals l.members q) (take l.at l.members)
