use Rattle.std.proofs.Common.{◌≡◌, ◌&&◌, ◌||◌, ℕ, List, take}
use Rattle.std.specs.BTreeSet.{contains}
use Rattle.net_model.specs.Words.{is_among}
use Rattle.net_model.specs.Order.{name_cmp}
use Rattle.link_members.specs.Listers.{is_rival}
use Rattle.link_members.proofs.listers.contest_all.Given as goal

-- those of the names so far are in the set
abbrev pub invariant-loop-name : goal.invariant-loop-name
invariant-loop-name l = (q : List ℕ) → contains name_cmp l.contested q ≡ (contains name_cmp l.initial.contested q || (is_among (take l.name-index l.names) q && is_rival l.members q l.lister))
