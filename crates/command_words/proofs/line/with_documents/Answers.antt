use Rattle.command_words.specs.Program.{show_app, apply_app, program}
use Rattle.command_words.proofs.line.with_documents.Goals as goal

pub returns : goal.returns
returns c =
    c.and.ensures _ apply_app (c.and-show.ensures program show_app c.program.ensures c.show_line.ensures) c.apply_line.ensures
