use Rattle.std.proofs.Common.{◌≡◌, drop, find}
use Rattle.policy_model.specs.Values.{is_empty_handed}
use Rattle.policy_values.specs.Tables.{found_in, seen}
use Rattle.policy_values.proofs.value.first_empty.Given as goal

-- none before
abbrev pub invariant-loop-capture : goal.invariant-loop-capture
invariant-loop-capture l =
    find (is_empty_handed (found_in l.captures (seen l.table))) (drop l.capture-index l.captures) ≡ find (is_empty_handed (found_in l.captures (seen l.table))) l.captures
