use Rattle.command_words.specs.Program.{with_checkpoint}
use Rattle.command_words.proofs.line.with_check.Goals as goal

pub returns : goal.returns
returns c =
    c.and_bare.ensures with_checkpoint c.with_checkpoint.ensures
