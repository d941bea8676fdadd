use Rattle.std.specs.Str.Parse.{ParsesUnsigned, ExplainsUnsignedError, HasUnsignedDigitsIfOk}
use Rattle.clap.specs.Words.{found_of}
use Rattle.command_words.proofs.FoundLemmas.{number_found}
use Rattle.command_words.proofs.found.number.Goals as goal

pub returns : goal.returns
returns c =
    number_found (λ bs r. ParsesUnsigned 32 10 bs r × ExplainsUnsignedError 10 bs r × HasUnsignedDigitsIfOk bs r) (λ t r g. g.0)
    c.args.name.now (found_of c.args.matches.now) c.get_one.result c.get_one.ensures.none c.get_one.ensures.value
