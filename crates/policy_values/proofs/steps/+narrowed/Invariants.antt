use Rattle.std.proofs.Common.{length}
use Rattle.policy_values.proofs.steps.+narrowed.Given as goal

-- each call has a key fewer to go
abbrev pub decreases-narrowed : goal.decreases-narrowed
decreases-narrowed l = length l.path.now
