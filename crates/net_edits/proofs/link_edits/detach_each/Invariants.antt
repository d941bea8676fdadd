use Rattle.std.proofs.Common.{◌≡◌, ◌++◌, map, take, drop}
use Rattle.net_model.specs.Edits.{detached}
use Rattle.net_edits.proofs.link_edits.detach_each.Given as goal

-- the links before the index are done, and the others as they were
abbrev pub invariant-loop-link : goal.invariant-loop-link
invariant-loop-link l = l.links ≡ map (detached l.port) (take l.link-index l.initial.links) ++ drop l.link-index l.initial.links
