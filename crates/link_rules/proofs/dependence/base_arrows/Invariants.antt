use Rattle.std.proofs.Common.{◌≡◌, map, take}
use Rattle.link_rules.specs.Rows.{base_row}
use Rattle.link_rules.proofs.dependence.base_arrows.Given as goal

-- those of the links so far
abbrev pub invariant-loop-link : goal.invariant-loop-link
invariant-loop-link l = l.arrows.items ≡ map (base_row l.merged) (take l.link-index l.link-items)
