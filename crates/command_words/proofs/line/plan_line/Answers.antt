use Rattle.std.specs.Prelude.{codes}
use Rattle.command_words.specs.Program.{file_app}
use Rattle.command_words.proofs.line.plan_line.Goals as goal

pub returns : goal.returns
returns c =
    c.with_flag.ensures (file_app (codes "plan")) c.file_line.ensures
