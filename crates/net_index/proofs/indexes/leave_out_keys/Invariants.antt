use Rattle.std.proofs.Common.{◌&&◌, take}
use Rattle.std.specs.List.{list_any}
use Rattle.net_model.specs.Words.{is_among}
use Rattle.net_model.specs.Twins.{has_key, Loses}
use Rattle.net_model.specs.declared.link.Link.{Link}
use Rattle.net_index.proofs.indexes.leave_out_keys.Given as goal

-- the keys of the names so far are out of the set
abbrev pub invariant-loop-at : goal.invariant-loop-at
invariant-loop-at l = Loses (λ key. list_any (λ (m : Link). is_among (take l.at l.goes) m.name && has_key key m.kind) l.links) l.fn.seen l.seen
