use Rattle.std.proofs.Common.{arith}
use Rattle.call_journal.proofs.Journals.{found, whole_read}
use Rattle.call_journal.proofs.read.read_call.Goals as goal

pub returns-clause-spelled : goal.returns-clause-spelled
returns-clause-spelled c =
    (found c.args.bytes.now c.in_ok-call.call (λ i. omega (arith, c.type_inv.bytes i))
    (whole_read c.args.bytes.now c.in_ok-call.behind c.in_ok-call.call c.in_ok-call.ensures.read (omega (arith, c.if-behind-bytes.false)))).spelled

pub returns-clause-fits : goal.returns-clause-fits
returns-clause-fits c =
    (found c.args.bytes.now c.in_ok-call.call (λ i. omega (arith, c.type_inv.bytes i))
    (whole_read c.args.bytes.now c.in_ok-call.behind c.in_ok-call.call c.in_ok-call.ensures.read (omega (arith, c.if-behind-bytes.false)))).fits
