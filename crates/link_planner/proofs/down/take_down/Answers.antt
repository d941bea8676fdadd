use Rattle.link_planner.proofs.Downing.{lower_next}
use Rattle.link_planner.proofs.down.take_down.Goals as goal

pub returns-then-must_fall : goal.returns-then-must_fall
returns-then-must_fall c = lower_next c.args.draft.now c.laws.ensures c.args.name.now c.requires.stands c.if-must_fall.ensures.yes
