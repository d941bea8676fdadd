use Rattle.std.proofs.Common.{sym}
use Rattle.order_reading.proofs.Parts.{no_moment}
use Rattle.order_reading.proofs.line.moment_of.Goals as goal

pub returns-in-Err : goal.returns-in-Err
returns-in-Err c =
    let all = rw c.as_bytes.ensures.value at c.if-not-are_digits.ensures in
    let well = rw c.as_bytes-else-not-are_digits.ensures.value at c.if-not-begins_well.ensures in
    no_moment c.args.text.now (sym all) (sym well) c.in-Err.ensures.value
