use Rattle.std.proofs.Common.{ℕ, ◌-◌, ◌<◌, ◌≤◌, ◌≡◌, true}
use Rattle.merge_model.specs.RuleNumbers.{is_taken}
use Rattle.route_merge.proofs.taken.Taken.free_number.Given as goal

-- all numbers up to this one are taken
abbrev pub invariant-loop-number : goal.invariant-loop-number
invariant-loop-number l = (30000 ≤ l.number) × ((m : ℕ) → 30000 ≤ m → m < l.number → is_taken l.self-inside.rules.items m ≡ true)

abbrev pub decreases-loop-number : goal.decreases-loop-number
decreases-loop-number l = 4294967296 - l.number
