use Rattle.std.proofs.Common.{◌≡◌, ◌<◌, ℕ, nat_le, true}
use Rattle.link_rules.specs.Candidates.{each_arrow}
use Rattle.link_rules.proofs.dependence.all_stay.Given as goal

-- those so far do
abbrev pub invariant-loop-at : goal.invariant-loop-at
invariant-loop-at l = (j : ℕ) → j < l.at → each_arrow nat_le l.arrows l.numbers j ≡ true
