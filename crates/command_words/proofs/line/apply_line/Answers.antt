use Rattle.std.specs.Prelude.{codes}
use Rattle.command_words.specs.Program.{timeout, file_app}
use Rattle.command_words.proofs.line.apply_line.Goals as goal

pub returns : goal.returns
returns c =
    c.with.ensures _ timeout (c.with_flag-verify.ensures _ (c.with_flag-commit.ensures (file_app (codes "apply")) c.file_line.ensures)) c.timeout.ensures
