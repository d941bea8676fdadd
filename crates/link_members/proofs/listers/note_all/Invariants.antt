use Rattle.std.proofs.Common.{◌≡◌, ℕ, List, Some, None, take, if◌then◌else◌}
use Rattle.std.specs.Option.{option_or}
use Rattle.std.specs.BTreeMap.{get}
use Rattle.net_model.specs.Words.{is_among}
use Rattle.net_model.specs.Order.{name_cmp}
use Rattle.link_members.proofs.listers.note_all.Given as goal

-- the names so far have taken the place
abbrev pub invariant-loop-name : goal.invariant-loop-name
invariant-loop-name l = (q : List ℕ) → get name_cmp l.firsts q ≡ option_or (get name_cmp l.initial.firsts q) (if is_among (take l.name-index l.names) q then Some l.at else None)
