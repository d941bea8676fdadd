use Rattle.std.proofs.Common.{◌≡◌, take, map}
use Rattle.policy_values.specs.Tables.{found_in, have_values, seen}
use Rattle.policy_values.proofs.values.are_ready.Given as goal

abbrev pub invariant-loop-these : goal.invariant-loop-these
invariant-loop-these l = l.ready.items ≡ map (have_values (found_in l.captures (seen l.table))) (take l.these-index l.names)
