use Rattle.std.proofs.Common.{◌≡◌, ◌∙◌, ◌+◌, ◌-◌, ◌++◌, length, List, ℕ, sym, ap, arith}
use Rattle.yaml_read.specs.Quoted.{unescaped, unescaped_within}
use Rattle.yaml_read.proofs.QuoteLaws.{empty_is, behind_text, text_ends, no_piece, text_goes, turns_end, turns_over}
use Rattle.yaml_read.proofs.quoted.unescaped.Goals as goal

pub returns-then-is_empty : goal.returns-then-is_empty
unfolding unescaped
returns-then-is_empty c =
    text_ends (length c.args.text.now) c.loop-turn._turn c.loop-turn-test.true c.loop-turn.scalar.items c.loop-turn.rest.now _ c.loop-turn.invariant (sym (empty_is c.loop-turn.rest.now) ∙ sym c.if-is_empty.ensures)

pub returns-in_default : goal.returns-in_default
unfolding unescaped
returns-in_default c =
    let e = rw c.in_default.is at c.in_ok-bytes.ensures in
    no_piece (length c.args.text.now) c.loop-turn._turn c.loop-turn-test.true c.loop-turn.scalar.items c.loop-turn.rest.now _ c.loop-turn.invariant (sym (empty_is c.loop-turn.rest.now) ∙ sym c.if-is_empty.ensures) (sym e)

pub loop-turn-preserved : goal.loop-turn-preserved
loop-turn-preserved c =
    let e = rw c.in-Some.is at c.in_ok-bytes.ensures in
    let longer = c.in_ok-extend_from_slice.ensures.items ∙ ap (λ (x : List ℕ). c.loop-turn.scalar.items ++ x) c.deref.ensures.value in
    ap (λ (s : List ℕ). behind_text s (unescaped_within (length c.args.text.now - (c.loop-turn._turn + 1)) c.in-Some.behind.now)) longer
    ∙ text_goes (length c.args.text.now) c.loop-turn._turn c.loop-turn-test.true c.loop-turn.scalar.items c.loop-turn.rest.now _ c.loop-turn.invariant (sym (empty_is c.loop-turn.rest.now) ∙ sym c.if-is_empty.ensures) (c.in-Some.bytes.items, c.in-Some.behind.now) (sym e)

pub returns-then-is_empty-2 : goal.returns-then-is_empty-2
unfolding unescaped
returns-then-is_empty-2 c =
    let all : c.loop-turn._turn ≡ length c.args.text.now = omega arith in
    turns_end (length c.args.text.now) c.loop-turn.scalar.items c.loop-turn.rest.now _
    (ap (λ k. behind_text c.loop-turn.scalar.items (unescaped_within (length c.args.text.now - k) c.loop-turn.rest.now)) (sym all) ∙ c.loop-turn.invariant) (sym (empty_is c.loop-turn.rest.now) ∙ sym c.if-is_empty-2.ensures)

pub returns : goal.returns
unfolding unescaped
returns c =
    let all : c.loop-turn._turn ≡ length c.args.text.now = omega arith in
    turns_over (length c.args.text.now) c.loop-turn.scalar.items c.loop-turn.rest.now _
    (ap (λ k. behind_text c.loop-turn.scalar.items (unescaped_within (length c.args.text.now - k) c.loop-turn.rest.now)) (sym all) ∙ c.loop-turn.invariant) (sym (empty_is c.loop-turn.rest.now) ∙ sym c.if-is_empty-2.ensures)
