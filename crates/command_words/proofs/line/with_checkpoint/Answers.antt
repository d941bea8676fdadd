use Rattle.command_words.specs.Program.{with_plans}
use Rattle.command_words.proofs.line.with_checkpoint.Goals as goal

pub returns : goal.returns
returns c =
    c.and_bare.ensures _ (c.and_bare-rollback.ensures _ (c.and_bare-commit.ensures with_plans c.with_plans.ensures))
