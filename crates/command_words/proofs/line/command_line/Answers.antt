use Rattle.command_words.specs.Program.{generate_app, with_folders}
use Rattle.command_words.proofs.line.command_line.Goals as goal

pub returns : goal.returns
returns c =
    c.and.ensures with_folders generate_app c.with_folders.ensures c.generate_line.ensures
