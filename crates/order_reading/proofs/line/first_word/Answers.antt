use Rattle.std.proofs.Common.{arith}
use Rattle.std.proofs.lemmas.Str.Pattern.{split_once_first}
use Rattle.order_reading.proofs.Parts.{first_word}
use Rattle.order_reading.proofs.line.first_word.Goals as goal

pub returns : goal.returns
returns c = first_word c.args.text.now c.split_once.result (split_once_first 32 c.args.text.now c.split_once.result c.split_once.ensures.cases (omega arith))
