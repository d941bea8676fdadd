use Rattle.clap.specs.Words.{new_app}
use Rattle.command_words.proofs.line.and_bare.Goals as goal

pub returns : goal.returns
returns c = λ app line.
    c.and.ensures app (new_app c.args.name.now) line c.bare_line.ensures
