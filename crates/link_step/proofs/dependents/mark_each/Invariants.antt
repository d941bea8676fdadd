use Rattle.std.proofs.Common.{take}
use Rattle.net_model.specs.Words.{is_among}
use Rattle.net_model.specs.declared.link.Link.{Link}
use Rattle.link_step.specs.Dependents.{MarksAll}
use Rattle.link_step.proofs.dependents.mark_each.Given as goal

-- the links of the names so far are marked
abbrev pub invariant-loop-name : goal.invariant-loop-name
invariant-loop-name l = (d : Link) → MarksAll l.links d (λ x. is_among (take l.name-index l.names) x.name) l.initial.marks l.marks l.initial.left.items l.left.items
