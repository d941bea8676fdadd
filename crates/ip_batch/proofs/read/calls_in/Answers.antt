use Rattle.std.proofs.Common.{◌∙◌, sym, arith, length}
use Rattle.ip_batch.specs.Pieces.{lines_of}
use Rattle.ip_batch.proofs.Reading.{at_first, on, first_bad, all_read, no_lines}
use Rattle.ip_batch.proofs.read.calls_in.Goals as goal

pub loop-rest-init : goal.loop-rest-init
loop-rest-init c = record { number = omega arith; so_far = at_first (lines_of c.args.bytes.now) _ c.new-calls.ensures.items }

pub loop-rest-preserved : goal.loop-rest-preserved
loop-rest-preserved c =
    let taken = rw c.if-not-branch.false at c.in_ok-push_call.ensures in
    record {
      number = omega (arith, c.loop-rest.invariant.number, c.first_line.ensures.shorter);
      so_far =
          on (lines_of c.args.bytes.now) (lines_of c.loop-rest.rest.now) (lines_of c.first_line.result.1.now) c.first_line.result.0.now c.loop-rest.number c.loop-rest.calls.items c.push_call.new.calls.items
          c.loop-rest.invariant.so_far c.first_line.ensures.lines taken;
    }

pub returns-then-not-branch : goal.returns-then-not-branch
returns-then-not-branch c =
    let bad = rw c.if-not-branch.true at c.in_ok-push_call.ensures in
    first_bad (lines_of c.args.bytes.now) (lines_of c.loop-rest.rest.now) (lines_of c.first_line.result.1.now) c.first_line.result.0.now c.loop-rest.number c.loop-rest.calls.items
    c.loop-rest.invariant.so_far c.first_line.ensures.lines bad.0 bad.1

pub returns : goal.returns
returns c =
    all_read (lines_of c.args.bytes.now) (lines_of c.loop-rest.rest.now) c.loop-rest.number c.loop-rest.calls.items c.loop-rest.invariant.so_far
    (no_lines c.loop-rest.rest.now (sym c.is_empty.ensures ∙ c.loop-rest-test.false))
