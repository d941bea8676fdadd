use Rattle.std.proofs.Common.{◌∙◌, Bool, List, ℕ, map, cond, sym, ap}
use Rattle.std.specs.Prelude.{◌||◌}
use Rattle.std.specs.Str.{bytes_eq}
use Rattle.doc_tree.specs.Shape.{shape, shapes_of, pair_shape, pairs_of}
use Rattle.doc_tree.specs.declared.Tree.{Tree}
use Rattle.policy_model.specs.Steps.{matches, some_matches, matches_under}
use Rattle.policy_lang.proofs.lemmas.Walks.{passed}
use Rattle.policy_values.proofs.steps.+matching.Goals as goal

pub some_matches-loop-tree-preserved : goal.some_matches-loop-tree-preserved
some_matches-loop-tree-preserved t c =
    let some : List Tree → Bool = λ ts. some_matches c.args.value.now c.args.path.now (shapes_of (map shape ts)) in
    passed some c.deref-tree-items.result.now c.loop-tree.tree-index _ c.loop-tree.invariant some c.tree-item.result c.loop-tree-test.true c.tree-item.is
    (λ rest. ap (λ b. b || some rest) (sym c.if-matches.false ∙ c.matches.ensures))

pub matches_under-loop-pair-preserved : goal.matches_under-loop-pair-preserved
matches_under-loop-pair-preserved t c =
    let v = c.args.value.now in
    let k = c.args.key.now in
    let ks = c.args.keys.now in
    let under : List (List ℕ × Tree) → Bool = λ ps. matches_under v k ks (pairs_of (map pair_shape ps)) in
    passed under c.deref-pair-items.result.now c.loop-pair.pair-index _ c.loop-pair.invariant under c.pair-item.result c.loop-pair-test.true c.pair-item.is
    (λ rest. ap (λ b. cond b (matches v ks (shape c.pair-item.result.1)) (under rest))
    (sym c.if-eq.false ∙ c.eq.ensures ∙ ap (bytes_eq c.as_str.result.now) c.as_str-in-loop-pair.ensures ∙ ap (λ l. bytes_eq l k) c.as_str.ensures))
