use Rattle.link_planner.specs.declared.phase.Phase.TheVariants.{DeleteLinks}
use Rattle.link_planner.specs.Drafts.{Holds}
use Rattle.link_planner.specs.Phases.{IsAlong}
use Rattle.link_planner.specs.Deletions.{noted}
use Rattle.link_planner.proofs.deletions.delete_links.Given as goal

-- with the deletions so far, so many of the names have been served
abbrev pub invariant-loop-name : goal.invariant-loop-name
invariant-loop-name g l = record {
  along : IsAlong DeleteLinks l.names l.name-index l.initial.draft (noted l.deletions l.draft);
  holds : Holds (noted l.deletions l.draft);
}
