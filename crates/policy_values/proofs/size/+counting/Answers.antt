use Rattle.std.proofs.Common.{◌∙◌, List, ℕ, map, Option, None, sym, ap}
use Rattle.doc_tree.specs.Shape.{shape, shapes_of, pair_shape, pairs_of}
use Rattle.doc_tree.specs.declared.Tree.{Tree}
use Rattle.policy_model.specs.Values.{nodes, nodes_among, nodes_under}
use Rattle.policy_values.specs.Sizes.{left_behind}
use Rattle.policy_lang.proofs.lemmas.Walks.{passed, settles}
use Rattle.policy_values.proofs.Walks.{count_on, count_past}
use Rattle.policy_values.proofs.size.+counting.Goals as goal

pub count_all-loop-tree-preserved : goal.count_all-loop-tree-preserved
count_all-loop-tree-preserved t c =
    let left : ℕ → List Tree → Option ℕ = λ n ts. left_behind n (nodes_among (shapes_of (map shape ts))) in
    passed (left c.loop-tree.rest) c.deref-tree-items.result.now c.loop-tree.tree-index _ c.loop-tree.invariant (left c.in-Some.behind) c.tree-item.result c.loop-tree-test.true c.tree-item.is
    (λ rest. count_on c.loop-tree.rest (nodes (shape c.tree-item.result)) (nodes_among (shapes_of (map shape rest))) c.in-Some.behind (sym c.in-Some.is ∙ c.count.ensures))

pub count_all-returns-in-None : goal.count_all-returns-in-None
count_all-returns-in-None t c =
    let left : ℕ → List Tree → Option ℕ = λ n ts. left_behind n (nodes_among (shapes_of (map shape ts))) in
    settles (left c.loop-tree.rest) c.deref-tree-items.result.now c.loop-tree.tree-index _ c.loop-tree.invariant None c.tree-item.result c.loop-tree-test.true c.tree-item.is
    (λ rest. count_past c.loop-tree.rest (nodes (shape c.tree-item.result)) (nodes_among (shapes_of (map shape rest))) (sym c.in-None.is ∙ c.count.ensures))
    ∙ ap (left c.args.left) c.deref-tree-items.ensures.value

pub count_pairs-loop-pair-preserved : goal.count_pairs-loop-pair-preserved
count_pairs-loop-pair-preserved t c =
    let left : ℕ → List (List ℕ × Tree) → Option ℕ = λ n ps. left_behind n (nodes_under (pairs_of (map pair_shape ps))) in
    passed (left c.loop-pair.rest) c.deref-pair-items.result.now c.loop-pair.pair-index _ c.loop-pair.invariant (left c.in-Some.behind) c.pair-item.result c.loop-pair-test.true c.pair-item.is
    (λ rest. count_on c.loop-pair.rest (nodes (shape c.pair-item.result.1)) (nodes_under (pairs_of (map pair_shape rest))) c.in-Some.behind (sym c.in-Some.is ∙ c.count.ensures))

pub count_pairs-returns-in-None : goal.count_pairs-returns-in-None
count_pairs-returns-in-None t c =
    let left : ℕ → List (List ℕ × Tree) → Option ℕ = λ n ps. left_behind n (nodes_under (pairs_of (map pair_shape ps))) in
    settles (left c.loop-pair.rest) c.deref-pair-items.result.now c.loop-pair.pair-index _ c.loop-pair.invariant None c.pair-item.result c.loop-pair-test.true c.pair-item.is
    (λ rest. count_past c.loop-pair.rest (nodes (shape c.pair-item.result.1)) (nodes_under (pairs_of (map pair_shape rest))) (sym c.in-None.is ∙ c.count.ensures))
    ∙ ap (left c.args.left) c.deref-pair-items.ensures.value
