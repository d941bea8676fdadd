use Rattle.std.proofs.Common.{◌∙◌}
use Rattle.order_reading.proofs.Parts.{no_lines}
use Rattle.order_reading.proofs.script.is_cut.Goals as goal

pub returns-then-past : goal.returns-then-past
returns-then-past c = rw c.if-past.true (c.is_empty.ensures ∙ no_lines c.args.more.now)
