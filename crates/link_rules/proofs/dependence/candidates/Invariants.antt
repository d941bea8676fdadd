use Rattle.link_rules.specs.Candidates.{Excludes}
use Rattle.link_rules.proofs.dependence.candidates.Given as goal

-- those so far
abbrev pub invariant-loop-at : goal.invariant-loop-at
invariant-loop-at l = Excludes l.arrows l.at l.may.items
