use Rattle.std.proofs.Common.{◌∙◌, sym}
use Rattle.show_core.specs.Fields.{field}
use Rattle.show_core.proofs.Held.{put_in, left_out}
use Rattle.show_core.proofs.pairs.Pairs.put_if.Goals as goal

pub returns-then-stands : goal.returns-then-stands
returns-then-stands c held test form h is t =
    put_in held (field c.args.key.now form) test _ (sym is ∙ c.if-stands.true) (c.put.ensures held form h t)

pub returns-else-stands : goal.returns-else-stands
returns-else-stands c held test form h is t =
    left_out held (field c.args.key.now form) test _ (sym is ∙ c.if-stands.false) h
