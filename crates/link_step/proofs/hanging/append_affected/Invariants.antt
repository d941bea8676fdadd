use Rattle.std.proofs.Common.{◌≡◌, ◌++◌, take}
use Rattle.link_step.specs.Hanging.{affected_among}
use Rattle.link_step.proofs.hanging.append_affected.Given as goal

-- those of the names so far are there
abbrev pub invariant-loop-name : goal.invariant-loop-name
invariant-loop-name l = l.names.items ≡ l.initial.names.items ++ affected_among l.which l.links (take l.name-index l.over)
