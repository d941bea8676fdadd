use Rattle.std.proofs.Common.{◌≡◌, take}
use Rattle.policy_values.specs.Tables.{seen, unknown}
use Rattle.policy_values.proofs.values.unknown.Given as goal

abbrev pub invariant-loop-capture : goal.invariant-loop-capture
invariant-loop-capture l = seen l.values.items ≡ unknown (take l._capture-index l.captures)
