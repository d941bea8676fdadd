use Rattle.std.specs.Prelude.{codes}
use Rattle.clap.specs.Words.{new_rule}
use Rattle.command_words.proofs.line.file_line.Goals as goal

pub returns : goal.returns
returns c =
    c.line_with.ensures (new_rule (codes "FILE")) c.positional.ensures
