use Rattle.std.proofs.Common.{◌≡◌, drop}
use Rattle.policy_values.specs.Sizes.{are_low}
use Rattle.policy_values.specs.Tables.{seen}
use Rattle.policy_values.proofs.size.are_low.Given as goal

abbrev pub invariant-loop-value : goal.invariant-loop-value
invariant-loop-value l = are_low l.low (seen (drop l.value-index l.table)) ≡ are_low l.low (seen l.table)
