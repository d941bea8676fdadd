use Rattle.std.proofs.Common.{◌∙◌, sym}
use Rattle.order_reading.proofs.Parts.{line_first, line_last}
use Rattle.order_reading.proofs.script.first_line.Goals as goal

pub returns-in-Some-clause-lines : goal.returns-in-Some-clause-lines
returns-in-Some-clause-lines c = line_first c.args.bytes.now c.in-Some.end (sym c.line_end.ensures ∙ c.in-Some.is)

pub returns-in-None-clause-lines : goal.returns-in-None-clause-lines
returns-in-None-clause-lines c = line_last c.args.bytes.now c.requires (sym c.line_end.ensures ∙ c.in-None.is)
