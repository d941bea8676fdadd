use Rattle.command_words.specs.Program.{file_app}
use Rattle.command_words.proofs.line.and_file.Goals as goal

pub returns : goal.returns
returns c = λ app line.
    c.and.ensures app (file_app c.args.name.now) line c.file_line.ensures
