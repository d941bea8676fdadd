use Rattle.std.proofs.Common.{◌∙◌, ◌-◌, ◌∷◌, List, ℕ, reverse, Err, sym, ap, ap₂, arith}
use Rattle.std.proofs.lemmas.Result.{err_from_is_err_and}
use Rattle.doc_tree.specs.Shape.{Shape}
use Rattle.doc_tree.specs.declared.tree.Tree.{Tree}
use Rattle.yaml_read.specs.declared.brackets.Bracket.{Bracket}
use Rattle.yaml_read.specs.declared.brackets.Bracket.TheVariants.{InMap}
use Rattle.yaml_plain.specs.Bytes.{tail}
use Rattle.yaml_read.specs.Keys.{Read, ◌>>=◌}
use Rattle.yaml_read.specs.Brackets.{behind, inside}
use Rattle.yaml_read.proofs.Fronts.{Fails-bind, Fails-same}
use Rattle.yaml_read.proofs.BracketLaws.{node_other, node_none, node_list, node_map, node_scalar}
use Rattle.yaml_read.proofs.brackets.node.Goals as goal
use Rattle.doc_tree.specs.declared.limits.TheConstants.{MAX_BYTES}

pub returns-then-begins_other : goal.returns-then-begins_other
returns-then-begins_other c = node_other c.args.repeats c.args.levels (reverse c.args.stack.items) c.args.text.now (sym c.if-begins_other.ensures)

pub returns-then-levels-eq0 : goal.returns-then-levels-eq0
returns-then-levels-eq0 c =
    node_none c.args.repeats c.args.levels (reverse c.args.stack.items) c.args.text.now (sym c.if-begins_other.ensures) c.if-levels-eq0.true
    ∙ ap (λ x. Err x) (sym c.without_levels.ensures)

pub returns-then-begins : goal.returns-then-begins
returns-then-begins c =
    node_list c.args.repeats c.args.levels (reverse c.args.stack.items) c.args.text.now (sym c.if-begins_other.ensures) (omega arith) (sym c.if-begins.ensures)
    ∙ ap₂ (λ (bs : List Bracket) (b : List ℕ). inside c.args.repeats bs b) (sym c.in_ok-more.ensures) (sym c.tail.ensures)

pub returns-then-begins-2 : goal.returns-then-begins-2
returns-then-begins-2 c =
    node_map c.args.repeats c.args.levels (reverse c.args.stack.items) c.args.text.now (sym c.if-begins_other.ensures) (omega arith) (sym c.if-begins.ensures) (sym c.if-begins-2.ensures)
    ∙ (ap (λ (ps : List (List ℕ × Tree)). inside c.args.repeats (InMap (c.args.levels - 1) MAX_BYTES ps ∷ reverse c.args.stack.items) (tail c.args.text.now)) (sym c.new.ensures)
    ∙ ap₂ (λ (bs : List Bracket) (b : List ℕ). inside c.args.repeats bs b) (sym c.in_ok-more-2.ensures) (sym c.tail-then-begins-2.ensures))

pub returns-in_err-rest : goal.returns-in_err-rest
returns-in_err-rest c =
    let p = err_from_is_err_and c.from_residual-in_err-rest.result c.from_residual-in_err-rest.ensures.1 in
    let e = node_scalar c.args.repeats c.args.levels (reverse c.args.stack.items) c.args.text.now (sym c.if-begins_other.ensures) (omega arith) (sym c.if-begins.ensures) (sym c.if-begins-2.ensures) in
    rw (p.1, p.2) (Fails-same c.in_err-rest.field-0.0 _ _ (sym e) (Fails-bind c.in_err-rest.field-0.0 _ (λ (v : Shape × List ℕ). behind c.args.repeats (reverse c.args.stack.items) v.1) c.in_err-rest.ensures))

pub returns : goal.returns
returns c =
    let e = node_scalar c.args.repeats c.args.levels (reverse c.args.stack.items) c.args.text.now (sym c.if-begins_other.ensures) (omega arith) (sym c.if-begins.ensures) (sym c.if-begins-2.ensures)
    ∙ ap (λ (r : Read Shape). r >>= (λ v. behind c.args.repeats (reverse c.args.stack.items) v.1)) c.in_ok-rest.ensures in
    rw e c.behind.ensures
