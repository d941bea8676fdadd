use Rattle.std.proofs.Common.{refl}
use Rattle.top_model.specs.Machine.{said_plan}
use Rattle.plain_commands.proofs.plan.lines_to.Goals as goal

pub returns-in-Ok : goal.returns-in-Ok
returns-in-Ok c = (said_plan c.args.batch c.args.from.now c.args.to.now, refl, c.in-Ok.ensures)
