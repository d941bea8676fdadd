use Rattle.std.proofs.Common.{◌≡◌, length}
use Rattle.net_model.specs.Words.{steps_up}
use Rattle.link_rules.specs.Rules.{by_address}
use Rattle.link_rules.proofs.twice.step_up.Given as goal

-- what is left decides
abbrev pub invariant-loop-prefix : goal.invariant-loop-prefix
invariant-loop-prefix l = steps_up by_address l.left ≡ steps_up by_address l.fn.addrs

abbrev pub decreases-loop-prefix : goal.decreases-loop-prefix
decreases-loop-prefix l = length l.left
