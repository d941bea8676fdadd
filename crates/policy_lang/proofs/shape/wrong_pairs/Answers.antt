use Rattle.std.proofs.Common.{◌∙◌, ◌<◌, ℕ, List, Option, map, length, get_or, option_map, sym, ap, arith}
use Rattle.std.specs.Option.{option_or}
use Rattle.base_model.specs.declared.Path.{Path}
use Rattle.doc_tree.specs.Shape.{shape, pair_shape, pairs_of}
use Rattle.doc_tree.specs.declared.Tree.{Tree}
use Rattle.policy_model.specs.Places.{Steps as Way}
use Rattle.policy_model.specs.Policies.{wrong_pair, wrong_pairs}
use Rattle.policy_lang.proofs.lemmas.Walks.{passed, settles, all_passed}
use Rattle.policy_lang.proofs.shape.wrong_pairs.Goals as goal

pub loop-pair-preserved : goal.loop-pair-preserved
loop-pair-preserved c =
    let pairs = c.args.pairs.now.items in
    let i = c.loop-pair.pair-index in
    let p = c.pair-item.result in
    let lt : i < length pairs = omega (arith, ap (λ (ps : List (List ℕ × Tree)). length ps) c.deref-pair-items.ensures.value) in
    let behind : List (List ℕ × Tree) → Option Way = λ ps. wrong_pairs (pairs_of (map pair_shape ps)) in
    passed behind pairs i _ c.loop-pair.invariant behind p lt (c.pair-item.is ∙ ap (λ (ps : List (List ℕ × Tree)). get_or ps i p) c.deref-pair-items.ensures.value)
    (λ rest. ap (λ (o : Option Way). option_or o (behind rest)) (ap (option_map (λ (path : Path). path.steps)) (sym c.in_default.is) ∙ c.in_ok-path.ensures ∙ ap (λ (k : List ℕ). wrong_pair k (shape p.1)) c.as_str.ensures))

pub returns-in-Some : goal.returns-in-Some
returns-in-Some c =
    let pairs = c.args.pairs.now.items in
    let i = c.loop-pair.pair-index in
    let p = c.pair-item.result in
    let lt : i < length pairs = omega (arith, ap (λ (ps : List (List ℕ × Tree)). length ps) c.deref-pair-items.ensures.value) in
    let behind : List (List ℕ × Tree) → Option Way = λ ps. wrong_pairs (pairs_of (map pair_shape ps)) in
    settles behind pairs i _ c.loop-pair.invariant _ p lt (c.pair-item.is ∙ ap (λ (ps : List (List ℕ × Tree)). get_or ps i p) c.deref-pair-items.ensures.value)
    (λ rest. ap (λ (o : Option Way). option_or o (behind rest)) (ap (option_map (λ (path : Path). path.steps)) (sym c.in-Some.is) ∙ c.in_ok-path.ensures ∙ ap (λ (k : List ℕ). wrong_pair k (shape p.1)) c.as_str.ensures))

pub returns : goal.returns
returns c =
    all_passed (λ (ps : List (List ℕ × Tree)). wrong_pairs (pairs_of (map pair_shape ps))) c.args.pairs.now.items c.loop-pair.pair-index _ c.loop-pair.invariant
    (omega (arith, ap (λ (ps : List (List ℕ × Tree)). length ps) c.deref-pair-items.ensures.value))
