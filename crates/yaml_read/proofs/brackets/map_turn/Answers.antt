use Rattle.std.proofs.Common.{◌≡◌, ◌∙◌, ◌++◌, ◌∷◌, [], List, ℕ, map, reverse, sym, ap, arith}
use Rattle.std.proofs.lemmas.Result.{err_from_is_err_and}
use Rattle.std.proofs.lemmas.List.{map_push}
use Rattle.doc_tree.specs.declared.tree.Tree.{Tree}
use Rattle.doc_tree.specs.declared.tree.Tree.TheVariants.{Null}
use Rattle.yaml_read.specs.declared.brackets.Bracket.{Bracket}
use Rattle.yaml_plain.specs.Bytes.{begins, tail}
use Rattle.yaml_read.specs.Flow.{next_key}
use Rattle.yaml_read.specs.Brackets.{behind, from_value}
use Rattle.yaml_read.proofs.Fronts.{Fails-same}
use Rattle.yaml_read.proofs.BracketLaws.{map_none, map_ends, map_fails, map_goes}
use Rattle.yaml_read.proofs.brackets.map_turn.Goals as goal

pub returns-then-turns-eq0 : goal.returns-then-turns-eq0
returns-then-turns-eq0 c = map_none c.args.repeats c.args.levels (reverse c.args.stack.items) c.args.turns c.args.entries c.args.text.now c.if-turns-eq0.true

pub returns-then-begins : goal.returns-then-begins
returns-then-begins c =
    let e = map_ends c.args.repeats c.args.levels (reverse c.args.stack.items) c.args.turns c.args.entries c.args.text.now (omega arith) (ap (begins 125) (sym c.skip_spaces-at.ensures) ∙ sym c.if-begins.ensures)
    ∙ ap (behind c.args.repeats (reverse c.args.stack.items)) (ap tail (sym c.skip_spaces-at.ensures) ∙ sym c.tail.ensures) in
    rw e c.behind.ensures

pub returns-in_err-name : goal.returns-in_err-name
returns-in_err-name c =
    let p = err_from_is_err_and c.from_residual.result c.from_residual.ensures.1 in
    let same = ap (next_key c.args.repeats (map (λ p. p.0) c.args.entries)) c.skip_spaces-at.ensures in
    rw (p.1, p.2) (map_fails c.args.repeats c.args.levels (reverse c.args.stack.items) c.args.turns c.args.entries c.args.text.now (omega arith) (ap (begins 125) (sym c.skip_spaces-at.ensures) ∙ sym c.if-begins.ensures)
    c.in_err-name.field-0.0 (Fails-same c.in_err-name.field-0.0 _ _ same c.in_err-name.ensures))

pub returns : goal.returns
returns c =
    let keys : map (λ p. p.0) c.in_ok-longer.longer ≡ map (λ p. p.0) c.args.entries ++ c.in_ok-name.name ∷ [] =
    ap (λ (v : List (List ℕ × Tree)). map (λ p. p.0) v) c.in_ok-longer.ensures ∙ map_push (λ p. p.0) c.args.entries (c.in_ok-name.name, Null) in
    let e = map_goes c.args.repeats c.args.levels (reverse c.args.stack.items) c.args.turns c.args.entries c.args.text.now (omega arith) (ap (begins 125) (sym c.skip_spaces-at.ensures) ∙ sym c.if-begins.ensures)
    c.in_ok-name.name c.in_ok-longer.longer keys c.in_ok-name.rest.now (ap (next_key c.args.repeats (map (λ p. p.0) c.args.entries)) (sym c.skip_spaces-at.ensures) ∙ c.in_ok-name.ensures)
    ∙ ap (λ (bs : List Bracket). from_value c.args.repeats c.args.levels bs c.in_ok-name.rest.now) (sym c.in_ok-more.ensures) in
    rw e c.value.ensures
