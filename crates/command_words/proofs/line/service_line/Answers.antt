use Rattle.std.specs.Prelude.{codes}
use Rattle.command_words.specs.Program.{required}
use Rattle.command_words.proofs.line.service_line.Goals as goal

pub returns : goal.returns
returns c =
    c.line_with.ensures (required (codes "DIR")) c.required.ensures
