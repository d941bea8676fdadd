use Rattle.std.proofs.Common.{length}
use Rattle.policy_values.proofs.steps.+narrowed_of.Given as goal

-- each call has a key fewer to go
abbrev pub decreases-narrowed_of : goal.decreases-narrowed_of
decreases-narrowed_of l = length l.path.now
