use Rattle.std.proofs.Common.{◌≡◌, take, not, filter}
use Rattle.net_model.specs.Words.{is_among}
use Rattle.engine_restore.proofs.devices.others.Given as goal

-- those of the names so far
abbrev pub invariant-loop-name : goal.invariant-loop-name
invariant-loop-name l = l.new.items ≡ filter (λ name. not (is_among l.names name)) (take l.name-index l.more)
