use Rattle.std.proofs.Common.{ap}
use Rattle.std.specs.Prelude.{Ok}
use Rattle.merge_model.specs.MergedNet.{merge}
use Rattle.top_model.specs.Machine.{plan_to, said_plan}
use Rattle.command_laws.proofs.lemmas.Looks.{text_as}
use Rattle.plain_commands.proofs.plan.planned_of.Goals as goal

pub returns-in-Ok : goal.returns-in-Ok
returns-in-Ok c =
    text_as (λ net. Ok (said_plan c.args.batch net c.in-Ok.to)) (λ net. plan_to c.args.batch net (merge net c.args.doc.now)) c.args.from.now c.lines_to.result (ap (plan_to c.args.batch c.args.from.now) c.in-Ok.ensures.merged) c.lines_to.ensures
