use Rattle.command_words.specs.Program.{with_check}
use Rattle.command_words.proofs.line.with_lists.Goals as goal

pub returns : goal.returns
returns c =
    c.and_file.ensures _ (c.and_file-init.ensures with_check c.with_check.ensures)
