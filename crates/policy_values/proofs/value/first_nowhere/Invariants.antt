use Rattle.std.proofs.Common.{◌≡◌, drop, find, is_none}
use Rattle.policy_model.specs.Values.{place_value}
use Rattle.policy_values.specs.Tables.{found_in, seen}
use Rattle.policy_values.proofs.value.first_nowhere.Given as goal

-- none before
abbrev pub invariant-loop-placed : goal.invariant-loop-placed
invariant-loop-placed l =
    find (λ p. is_none (place_value (found_in l.captures (seen l.table)) p.inner)) (drop l.placed-index l.places) ≡ find (λ p. is_none (place_value (found_in l.captures (seen l.table)) p.inner)) l.places
