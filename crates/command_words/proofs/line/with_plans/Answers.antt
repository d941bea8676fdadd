use Rattle.command_words.specs.Program.{plan_app, with_documents}
use Rattle.command_words.proofs.line.with_plans.Goals as goal

pub returns : goal.returns
returns c =
    c.and_file.ensures _ (c.and_file-policy.ensures _ (c.and-plan.ensures with_documents plan_app c.with_documents.ensures c.plan_line.ensures))
