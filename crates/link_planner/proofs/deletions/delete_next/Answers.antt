use Rattle.link_planner.specs.Deletions.{noted}
use Rattle.link_planner.proofs.Noted.{stay_served}
use Rattle.link_planner.proofs.deletions.delete_next.Goals as goal

pub delete-requires-clause-may : goal.delete-requires-clause-may
delete-requires-clause-may g c = c.requires

pub delete-requires-clause-must : goal.delete-requires-clause-must
delete-requires-clause-must g c = c.in-Some.ensures

pub returns-in-None : goal.returns-in-None
returns-in-None g c = stay_served (noted c.args.deletions.now c.args.draft.now) c.args.name.now c.requires c.in-None.ensures
