use Rattle.std.proofs.Common.{◌∙◌, ap}
use Rattle.show_core.specs.Fields.{number}
use Rattle.show_core.proofs.pairs.Pairs.put_number.Goals as goal

pub returns : goal.returns
returns c held value h is = c.put.ensures held (number value) h (c.number_tree.ensures ∙ ap number is)
