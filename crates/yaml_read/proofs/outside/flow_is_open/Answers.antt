use Rattle.std.proofs.Common.{◌≡◌, ◌∙◌, ◌-◌, sym, ap, arith}
use Rattle.yaml_read.specs.Outside.{flow_is_open}
use Rattle.yaml_read.proofs.OpenLaws.{all_turns, at_space, at_end, at_open_quote, at_quote, at_opening, at_other, at_last, at_closing}
use Rattle.yaml_read.proofs.outside.flow_is_open.Goals as goal

pub loop-turn-preserved-then-begins : goal.loop-turn-preserved-then-begins
loop-turn-preserved-then-begins c = record {
  within = omega arith;
  so_far = rw c.tail-rest.ensures (at_space c.args.turns c.loop-turn._turn _ _ _ _ _ c.loop-turn-test.true c.loop-turn.invariant.so_far (sym c.if-begins.ensures));
}

pub returns-then-ends_line : goal.returns-then-ends_line
returns-then-ends_line c =
    at_end c.args.turns c.loop-turn._turn _ _ _ _ _ c.loop-turn-test.true c.loop-turn.invariant.so_far (sym c.if-begins.ensures) (sym c.if-ends_line.ensures)

pub returns-in_default : goal.returns-in_default
returns-in_default c =
    at_open_quote c.args.turns c.loop-turn._turn _ _ _ _ _ c.loop-turn-test.true c.loop-turn.invariant.so_far (sym c.if-begins.ensures) (sym c.if-ends_line.ensures) (sym c.if-can_quote.ensures) (sym c.in_default.ensures)

pub loop-turn-preserved-then-can_quote : goal.loop-turn-preserved-then-can_quote
loop-turn-preserved-then-can_quote c = record {
  within = omega arith;
  so_far = at_quote c.args.turns c.loop-turn._turn _ _ _ _ _ c.loop-turn-test.true c.loop-turn.invariant.so_far (sym c.if-begins.ensures) (sym c.if-ends_line.ensures) (sym c.if-can_quote.ensures) c.in-Some.behind.now (sym c.in-Some.ensures);
}

pub loop-turn-preserved-then-opens_flow : goal.loop-turn-preserved-then-opens_flow
loop-turn-preserved-then-opens_flow c = record {
  within = omega arith;
  so_far = rw c.tail-rest-then-opens_flow.ensures (at_opening c.args.turns c.loop-turn._turn _ _ _ _ _ c.loop-turn-test.true c.loop-turn.invariant.so_far (sym c.if-begins.ensures) (sym c.if-ends_line.ensures) (sym c.if-can_quote.ensures) (sym c.if-opens_flow.ensures));
}

pub loop-turn-preserved-then-not-closes_flow : goal.loop-turn-preserved-then-not-closes_flow
loop-turn-preserved-then-not-closes_flow c = record {
  within = omega arith;
  so_far = rw (c.tail-rest-then-not-closes_flow.ensures, c.parts_flow-fresh.ensures)
      (at_other c.args.turns c.loop-turn._turn _ _ _ _ _ c.loop-turn-test.true c.loop-turn.invariant.so_far (sym c.if-begins.ensures) (sym c.if-ends_line.ensures) (sym c.if-can_quote.ensures) (sym c.if-opens_flow.ensures) (sym c.if-not-closes_flow.ensures));
}

pub returns-then-depth-eq0 : goal.returns-then-depth-eq0
returns-then-depth-eq0 c =
    at_last c.args.turns c.loop-turn._turn _ _ _ _ _ c.loop-turn-test.true c.loop-turn.invariant.so_far (sym c.if-begins.ensures) (sym c.if-ends_line.ensures) (sym c.if-can_quote.ensures) (sym c.if-opens_flow.ensures) (sym c.if-not-closes_flow.ensures) c.if-depth-eq0.true

pub loop-turn-preserved : goal.loop-turn-preserved
loop-turn-preserved c = record {
  within = omega arith;
  so_far = rw c.tail-rest-in-loop-turn.ensures
      (at_closing c.args.turns c.loop-turn._turn _ _ _ _ _ c.loop-turn-test.true c.loop-turn.invariant.so_far (sym c.if-begins.ensures) (sym c.if-ends_line.ensures) (sym c.if-can_quote.ensures) (sym c.if-opens_flow.ensures) (sym c.if-not-closes_flow.ensures) c.if-depth-eq0.false);
}

pub returns : goal.returns
returns c =
    let all : c.loop-turn._turn ≡ c.args.turns = omega arith in
    all_turns c.args.turns _ _ _ _ _ (ap (λ k. flow_is_open (c.args.turns - k) c.loop-turn.depth c.loop-turn.fresh c.loop-turn.spaced c.loop-turn.rest.now) (sym all) ∙ c.loop-turn.invariant.so_far)
