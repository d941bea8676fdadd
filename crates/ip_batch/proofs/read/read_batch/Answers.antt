use Rattle.std.proofs.Common.{rules, arith, refl}
use Rattle.ip_batch.specs.Pieces.{lines_of}
use Rattle.ip_batch.proofs.Lines.{large_read}
use Rattle.ip_batch.proofs.Reading.{answers, stands, bad, not_large}
use Rattle.ip_batch.proofs.read.read_batch.Goals as goal

pub returns-then-bytes-gt-MAX_BATCH_BYTES-clause-value : goal.returns-then-bytes-gt-MAX_BATCH_BYTES-clause-value
returns-then-bytes-gt-MAX_BATCH_BYTES-clause-value c = large_read c.args.bytes.now (search rules)

pub returns-clause-value : goal.returns-clause-value
returns-clause-value c = answers c.args.bytes.now c.calls_in.result (search rules) c.calls_in.ensures

pub returns-clause-calls : goal.returns-clause-calls
returns-clause-calls c = stands (lines_of c.args.bytes.now) c.calls_in.result c.calls_in.ensures

pub returns-clause-line : goal.returns-clause-line
returns-clause-line c = bad (lines_of c.args.bytes.now) c.calls_in.result c.calls_in.ensures

pub returns-clause-large : goal.returns-clause-large
returns-clause-large c = (λ is. absurd (not_large (lines_of c.args.bytes.now) c.calls_in.result c.calls_in.ensures is), λ past. absurd (omega (arith, past)))
