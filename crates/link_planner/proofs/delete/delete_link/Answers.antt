use Rattle.link_planner.proofs.Deleting.{delete_next}
use Rattle.link_planner.proofs.delete.delete_link.Goals as goal

pub returns-then-must_go : goal.returns-then-must_go
returns-then-must_go c = delete_next c.args.draft.now c.laws.ensures c.args.name.now c.requires.stands c.if-must_go.ensures.yes
