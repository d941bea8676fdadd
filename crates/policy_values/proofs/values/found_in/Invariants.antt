use Rattle.std.proofs.Common.{◌≡◌, drop}
use Rattle.policy_values.specs.Tables.{found_in, seen}
use Rattle.policy_values.proofs.values.found_in.Given as goal

abbrev pub invariant-loop-i : goal.invariant-loop-i
invariant-loop-i l = found_in (drop l.i l.captures) (seen (drop l.i l.table)) l.name ≡ found_in l.captures (seen l.table) l.name
