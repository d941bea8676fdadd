use Rattle.std.proofs.Common.{◌∙◌, ◌+◌, sym, ap, arith, length, List}
use Rattle.std.specs.Prelude.{nat_lt}
use Rattle.doc_tree.specs.declared.limits.TheConstants.{MAX_BYTES}
use Rattle.top_model.specs.Orders.{Text}
use Rattle.top_model.specs.Lines.{lines_of, steps_from}
use Rattle.order_reading.specs.Steps.{seen}
use Rattle.order_reading.proofs.Parts.{before_none, steps_are, bad_line, line_cut, line_bad, line_stands, steps_on, steps_all}
use Rattle.order_reading.proofs.script.steps_of.Goals as goal

pub loop-rest-init : goal.loop-rest-init
loop-rest-init c = record {
  number = omega arith;
  so_far = rw c.new-steps.ensures.items (before_none (steps_from (nat_lt MAX_BYTES (length c.args.bytes.now)) 1 (lines_of c.args.bytes.now)) ∙ sym (steps_are c.args.bytes.now));
}

pub returns-then-is_cut : goal.returns-then-is_cut
returns-then-is_cut c =
    let past = nat_lt MAX_BYTES (length c.args.bytes.now) in
    bad_line c.args.bytes.now (seen c.loop-rest.steps) (steps_from past c.loop-rest.number (lines_of c.loop-rest.rest.now)) c.loop-rest.number c.loop-rest.invariant.so_far
    (ap (λ (lines : List Text). steps_from past c.loop-rest.number lines) c.first_line.ensures.lines
    ∙ line_cut past c.loop-rest.number c.first_line.result.0.now (lines_of c.first_line.result.1.now) (sym c.is_cut.ensures ∙ c.if-is_cut.true))

pub returns-then-not-branch : goal.returns-then-not-branch
returns-then-not-branch c =
    let past = nat_lt MAX_BYTES (length c.args.bytes.now) in
    let bad = rw c.if-not-branch.true at c.in_ok-push_step.ensures in
    bad_line c.args.bytes.now (seen c.loop-rest.steps) (steps_from past c.loop-rest.number (lines_of c.loop-rest.rest.now)) c.loop-rest.number c.loop-rest.invariant.so_far
    (ap (λ (lines : List Text). steps_from past c.loop-rest.number lines) c.first_line.ensures.lines
    ∙ line_bad past c.loop-rest.number c.first_line.result.0.now (lines_of c.first_line.result.1.now) (sym c.is_cut.ensures ∙ c.if-is_cut.false) bad)

pub loop-rest-preserved : goal.loop-rest-preserved
loop-rest-preserved c =
    let past = nat_lt MAX_BYTES (length c.args.bytes.now) in
    let taken = rw c.if-not-branch.false at c.in_ok-push_step.ensures in
    record {
      number = omega (arith, c.loop-rest.invariant.number, c.first_line.ensures.shorter);
      so_far =
          steps_on c.args.bytes.now (seen c.loop-rest.steps) (seen c.push_step.new.steps) taken.0 (steps_from past c.loop-rest.number (lines_of c.loop-rest.rest.now))
          (steps_from past (c.loop-rest.number + 1) (lines_of c.first_line.result.1.now)) c.loop-rest.invariant.so_far
          (ap (λ (lines : List Text). steps_from past c.loop-rest.number lines) c.first_line.ensures.lines
          ∙ line_stands past c.loop-rest.number c.first_line.result.0.now (lines_of c.first_line.result.1.now) taken.0 (sym c.is_cut.ensures ∙ c.if-is_cut.false) taken.1)
          taken.2;
    }

pub returns : goal.returns
returns c =
    steps_all c.args.bytes.now c.loop-rest.rest.now (nat_lt MAX_BYTES (length c.args.bytes.now)) c.loop-rest.number (seen c.loop-rest.steps) c.loop-rest.invariant.so_far
    (sym c.is_empty.ensures ∙ c.loop-rest-test.false)
