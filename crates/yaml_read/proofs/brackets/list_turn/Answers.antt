use Rattle.std.proofs.Common.{◌∙◌, List, ℕ, reverse, sym, ap, ap₂, arith}
use Rattle.yaml_read.specs.declared.brackets.Bracket.{Bracket}
use Rattle.yaml_plain.specs.Bytes.{begins, tail}
use Rattle.yaml_read.specs.Brackets.{behind, from_node}
use Rattle.yaml_read.proofs.BracketLaws.{list_none, list_ends, list_goes}
use Rattle.yaml_read.proofs.brackets.list_turn.Goals as goal

pub returns-then-turns-eq0 : goal.returns-then-turns-eq0
returns-then-turns-eq0 c = list_none c.args.repeats c.args.levels (reverse c.args.stack.items) c.args.turns c.args.text.now c.if-turns-eq0.true

pub returns-then-begins : goal.returns-then-begins
returns-then-begins c =
    let e = list_ends c.args.repeats c.args.levels (reverse c.args.stack.items) c.args.turns c.args.text.now (omega arith) (ap (begins 93) (sym c.skip_spaces-at.ensures) ∙ sym c.if-begins.ensures)
    ∙ ap (behind c.args.repeats (reverse c.args.stack.items)) (ap tail (sym c.skip_spaces-at.ensures) ∙ sym c.tail.ensures) in
    rw e c.behind.ensures

pub returns : goal.returns
returns c =
    let e = list_goes c.args.repeats c.args.levels (reverse c.args.stack.items) c.args.turns c.args.text.now (omega arith) (ap (begins 93) (sym c.skip_spaces-at.ensures) ∙ sym c.if-begins.ensures)
    ∙ ap₂ (λ (bs : List Bracket) (b : List ℕ). from_node c.args.repeats c.args.levels bs b) (sym c.in_ok-more.ensures) (sym c.skip_spaces-at.ensures) in
    rw e c.node.ensures
