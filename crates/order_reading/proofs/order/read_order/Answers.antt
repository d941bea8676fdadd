use Rattle.std.proofs.Common.{map, string_bytes}
use Rattle.order_reading.proofs.Alone.{takes_more}
use Rattle.order_reading.proofs.order.read_order.Goals as goal

pub returns-clause-memory : goal.returns-clause-memory
returns-clause-memory g c = λ ran_out.
    let words = map string_bytes c.args.words.now in
    let takes = rw c.in_ok-command.ensures.command at c.order_named.ensures.memory ran_out in
    takes_more words takes
