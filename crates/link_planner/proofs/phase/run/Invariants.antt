use Rattle.link_planner.specs.Phases.{IsAlong}
use Rattle.link_planner.proofs.phase.run.Given as goal

abbrev pub invariant-loop-name : goal.invariant-loop-name
invariant-loop-name g l = IsAlong l.phase l.names l.name-index l.initial.draft l.draft
