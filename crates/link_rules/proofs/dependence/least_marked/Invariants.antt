use Rattle.link_rules.specs.Candidates.{IsLeastOf}
use Rattle.link_rules.proofs.dependence.least_marked.Given as goal

-- among those so far
abbrev pub invariant-loop-at : goal.invariant-loop-at
invariant-loop-at l = IsLeastOf l.links l.may l.at l.least
