use Rattle.rollout_model.specs.Rolls.{work}
use Rattle.rollout_run.proofs.Rolling.{SoFar}
use Rattle.rollout_run.proofs.roll.roll_out.Given as goal

-- the steps so far, and their lines
abbrev pub invariant-steps : goal.invariant-steps
invariant-steps g l = SoFar g.H.Host g.C.Clock g.W.Sink l.doc l.timeout l.fn.core.limit l.fn.hosts.items l.fn.clock l.fn.printed l.fn.out l.hosts.items l.clock l.out l.core l.ended

abbrev pub decreases-steps : goal.decreases-steps
decreases-steps g l = work l.core
