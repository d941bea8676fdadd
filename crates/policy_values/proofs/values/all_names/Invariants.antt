use Rattle.std.proofs.Common.{◌≡◌, take, map}
use Rattle.policy_values.specs.Tables.{names}
use Rattle.policy_values.proofs.values.all_names.Given as goal

abbrev pub invariant-loop-capture : goal.invariant-loop-capture
invariant-loop-capture l = l.all.items ≡ map names (take l.capture-index l.captures)
