use Rattle.std.proofs.Common.{◌∙◌, ◌<◌, ℕ, Bool, List, Option, Some, cond, map, length, get_or, sym, ap, arith}
use Rattle.doc_tree.specs.Shape.{pair_shape, pairs_of}
use Rattle.doc_tree.specs.declared.Tree.{Tree}
use Rattle.policy_model.specs.Policies.{first_other}
use Rattle.policy_lang.proofs.lemmas.Walks.{passed, settles, all_passed}
use Rattle.policy_lang.proofs.shape.first_other.Goals as goal

pub loop-pair-preserved : goal.loop-pair-preserved
loop-pair-preserved c =
    let pairs = c.args.pairs.now.items in
    let i = c.loop-pair.pair-index in
    let p = c.pair-item.result in
    let lt : i < length pairs = omega (arith, ap (λ (ps : List (List ℕ × Tree)). length ps) c.deref-pair-items.ensures.value) in
    let behind : List (List ℕ × Tree) → Option (List ℕ) = λ ps. first_other (pairs_of (map pair_shape ps)) in
    passed behind pairs i _ c.loop-pair.invariant behind p lt (c.pair-item.is ∙ ap (λ (ps : List (List ℕ × Tree)). get_or ps i p) c.deref-pair-items.ensures.value)
    (λ rest. ap (λ (b : Bool). cond b (behind rest) (Some p.0)) (sym c.if-not-is_string.false ∙ c.is_string.ensures))

pub returns-then-not-is_string : goal.returns-then-not-is_string
returns-then-not-is_string c =
    let pairs = c.args.pairs.now.items in
    let i = c.loop-pair.pair-index in
    let p = c.pair-item.result in
    let lt : i < length pairs = omega (arith, ap (λ (ps : List (List ℕ × Tree)). length ps) c.deref-pair-items.ensures.value) in
    let behind : List (List ℕ × Tree) → Option (List ℕ) = λ ps. first_other (pairs_of (map pair_shape ps)) in
    settles behind pairs i _ c.loop-pair.invariant (Some p.0) p lt (c.pair-item.is ∙ ap (λ (ps : List (List ℕ × Tree)). get_or ps i p) c.deref-pair-items.ensures.value)
    (λ rest. ap (λ (b : Bool). cond b (behind rest) (Some p.0)) (sym c.if-not-is_string.true ∙ c.is_string.ensures))

pub returns : goal.returns
returns c =
    all_passed (λ (ps : List (List ℕ × Tree)). first_other (pairs_of (map pair_shape ps))) c.args.pairs.now.items c.loop-pair.pair-index _ c.loop-pair.invariant
    (omega (arith, ap (λ (ps : List (List ℕ × Tree)). length ps) c.deref-pair-items.ensures.value))
