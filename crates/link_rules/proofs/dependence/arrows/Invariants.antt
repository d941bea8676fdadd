use Rattle.std.proofs.Common.{◌≡◌}
use Rattle.link_order.specs.Rows.{rows_to}
use Rattle.link_rules.specs.Rows.{base_row, controls}
use Rattle.link_rules.proofs.dependence.arrows.Given as goal

-- the arrows to the ports so far
abbrev pub invariant-loop-at : goal.invariant-loop-at
invariant-loop-at l = l.arrows.items ≡ rows_to (base_row l.merged) controls l.merged l.at
