use Rattle.command_words.specs.Program.{flag}
use Rattle.command_words.proofs.line.with_flag.Goals as goal

pub returns : goal.returns
returns c = λ app line.
    c.with.ensures app (flag c.args.name.now) line c.flag.ensures
