use Rattle.link_planner.proofs.Detaching.{detach_next}
use Rattle.link_planner.proofs.detach.detach_port.Goals as goal

pub returns-then-must_leave : goal.returns-then-must_leave
returns-then-must_leave c = detach_next c.args.draft.now c.laws.ensures c.args.name.now c.requires.stands c.if-must_leave.ensures.yes
