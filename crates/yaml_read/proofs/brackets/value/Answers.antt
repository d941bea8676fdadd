use Rattle.std.proofs.Common.{◌∙◌, ◌||◌, List, ℕ, reverse, sym, ap, arith}
use Rattle.yaml_plain.specs.Bytes.{comma, right_brace, begins}
use Rattle.yaml_read.specs.Brackets.{behind, from_node}
use Rattle.yaml_read.proofs.BracketLaws.{value_none, value_null, value_node}
use Rattle.yaml_read.proofs.brackets.value.Goals as goal

pub returns-then-levels-eq0 : goal.returns-then-levels-eq0
returns-then-levels-eq0 c = value_none c.args.repeats c.args.levels (reverse c.args.stack.items) c.args.text.now c.if-levels-eq0.true

pub returns-then-has_no_value : goal.returns-then-has_no_value
returns-then-has_no_value c =
    let e = value_null c.args.repeats c.args.levels (reverse c.args.stack.items) c.args.text.now (omega arith)
    (ap (λ (b : List ℕ). begins comma b || begins right_brace b) (sym c.skip_spaces-at.ensures) ∙ sym c.if-has_no_value.ensures)
    ∙ ap (behind c.args.repeats (reverse c.args.stack.items)) (sym c.skip_spaces-at.ensures) in
    rw e c.behind.ensures

pub returns : goal.returns
returns c =
    let e = value_node c.args.repeats c.args.levels (reverse c.args.stack.items) c.args.text.now (omega arith)
    (ap (λ (b : List ℕ). begins comma b || begins right_brace b) (sym c.skip_spaces-at.ensures) ∙ sym c.if-has_no_value.ensures)
    ∙ ap (from_node c.args.repeats c.args.levels (reverse c.args.stack.items)) (sym c.skip_spaces-at.ensures) in
    rw e c.node.ensures
