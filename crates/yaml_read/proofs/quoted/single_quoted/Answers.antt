use Rattle.std.proofs.Common.{◌∙◌, ◌+◌, ◌++◌, ◌∷◌, [], ℕ, List, Some, cond, get_or, drop, sym, ap, ap₂}
use Rattle.std.specs.Prelude.{option_map}
use Rattle.std.proofs.lemmas.List.{at_drop_more, at_drop_all, drop_more, take_rest}
use Rattle.yaml_plain.proofs.lemmas.Parts.{behind}
use Rattle.yaml_read.specs.Quoted.{single_quoted}
use Rattle.yaml_read.proofs.QuoteLaws.{single_more, single_closed, single_last, single_open}
use Rattle.yaml_read.proofs.quoted.single_quoted.Goals as goal

pub loop-i-preserved : goal.loop-i-preserved
loop-i-preserved c =
    let text = c.args.text.now in
    let l = c.loop-i in
    let b = get_or text l.i 0 in
    ap₂ (λ q (front : List ℕ). option_map (behind front) (single_quoted q (drop (l.i + 1) text))) c.is_pending-pending.ensures
    (c.in_ok-push_unless.ensures ∙ ap (λ q. cond q l.scalar.items (l.scalar.items ++ b ∷ [])) c.is_pending-pending.ensures)
    ∙ (single_more l.pending l.scalar.items b (drop (l.i + 1) text) c.if-is_behind.ensures
    ∙ (sym (at_drop_more (λ bs. option_map (behind l.scalar.items) (single_quoted l.pending bs)) text l.i 0 c.loop-i-test.true) ∙ l.invariant))

pub returns-then-is_behind : goal.returns-then-is_behind
returns-then-is_behind c =
    let text = c.args.text.now in
    let l = c.loop-i in
    ap (λ (bs : List ℕ). Some (l.scalar.items, bs)) (take_rest text l.i ∙ drop_more text l.i 0 c.loop-i-test.true)
    ∙ (sym (single_closed l.pending l.scalar.items (get_or text l.i 0) (drop (l.i + 1) text) c.if-is_behind.ensures)
    ∙ (sym (at_drop_more (λ bs. option_map (behind l.scalar.items) (single_quoted l.pending bs)) text l.i 0 c.loop-i-test.true) ∙ l.invariant))

pub returns-then-pending : goal.returns-then-pending
returns-then-pending c =
    let l = c.loop-i in
    single_last l.pending l.scalar.items c.if-pending.true
    ∙ (sym (at_drop_all (λ bs. option_map (behind l.scalar.items) (single_quoted l.pending bs)) c.args.text.now l.i c.loop-i-test.false) ∙ l.invariant)

pub returns : goal.returns
returns c =
    let l = c.loop-i in
    single_open l.pending l.scalar.items c.if-pending.false
    ∙ (sym (at_drop_all (λ bs. option_map (behind l.scalar.items) (single_quoted l.pending bs)) c.args.text.now l.i c.loop-i-test.false) ∙ l.invariant)
