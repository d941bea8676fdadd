use Rattle.link_planner.specs.Creations.{noted}
use Rattle.link_planner.proofs.Creating.{there_served}
use Rattle.link_planner.proofs.creations.create_next.Goals as goal

pub create-requires-clause-may : goal.create-requires-clause-may
create-requires-clause-may c = c.requires

pub create-requires-clause-comes : goal.create-requires-clause-comes
create-requires-clause-comes c = c.in-Some.ensures

pub returns-in-None : goal.returns-in-None
returns-in-None c = there_served (noted c.args.creations.now c.args.draft.now) c.args.name.now c.requires c.in-None.ensures
