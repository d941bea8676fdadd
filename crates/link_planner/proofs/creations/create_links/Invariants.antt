use Rattle.link_planner.specs.declared.phase.Phase.TheVariants.{CreateLinks}
use Rattle.link_planner.specs.Drafts.{Holds}
use Rattle.link_planner.specs.Phases.{IsAlong}
use Rattle.link_planner.specs.Creations.{noted}
use Rattle.link_planner.proofs.creations.create_links.Given as goal

-- with the creations so far, so many of the names have been served
abbrev pub invariant-loop-name : goal.invariant-loop-name
invariant-loop-name l = record {
  along : IsAlong CreateLinks l.names l.name-index l.initial.draft (noted l.creations l.draft);
  holds : Holds (noted l.creations l.draft);
}
