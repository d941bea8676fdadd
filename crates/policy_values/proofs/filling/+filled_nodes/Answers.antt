use Rattle.std.proofs.Common.{◌∙◌, List, ℕ, map, Option, sym, arith}
use Rattle.doc_tree.specs.Shape.{shape, shapes_of, pair_shape, pairs_of}
use Rattle.doc_tree.specs.declared.Tree.{Tree}
use Rattle.policy_model.specs.Places.{filled, filled_among, filled_under}
use Rattle.policy_model.specs.Values.{nodes, nodes_among, nodes_under}
use Rattle.policy_values.specs.Sizes.{left_behind}
use Rattle.policy_values.specs.Tables.{found_in, filler, seen}
use Rattle.policy_values.proofs.Sized.{none_left}
use Rattle.policy_lang.proofs.lemmas.Walks.{passed}
use Rattle.policy_values.proofs.Walks.{count_on}
use Rattle.policy_values.proofs.filling.+filled_nodes.Goals as goal

pub filled_count-returns-then-left-eq0 : goal.filled_count-returns-then-left-eq0
filled_count-returns-then-left-eq0 t c = none_left c.args.left (filled (filler (found_in c.args.captures.now (seen c.args.table.now))) (shape c.args.tree.now)) (omega arith)

pub filled_count_all-loop-tree-preserved : goal.filled_count_all-loop-tree-preserved
filled_count_all-loop-tree-preserved t c =
    let value = filler (found_in c.args.captures.now (seen c.args.table.now)) in
    let left : ℕ → List Tree → Option ℕ = λ n ts. left_behind n (nodes_among (filled_among value (shapes_of (map shape ts)))) in
    passed (left c.loop-tree.rest) c.deref-tree-items.result.now c.loop-tree.tree-index _ c.loop-tree.invariant (left c.in-Some.behind) c.tree-item.result c.loop-tree-test.true c.tree-item.is
    (λ rest. count_on c.loop-tree.rest (nodes (filled value (shape c.tree-item.result))) (nodes_among (filled_among value (shapes_of (map shape rest)))) c.in-Some.behind (sym c.in-Some.is ∙ c.in_ok-behind.ensures))

pub filled_count_pairs-loop-pair-preserved : goal.filled_count_pairs-loop-pair-preserved
filled_count_pairs-loop-pair-preserved t c =
    let value = filler (found_in c.args.captures.now (seen c.args.table.now)) in
    let left : ℕ → List (List ℕ × Tree) → Option ℕ = λ n ps. left_behind n (nodes_under (filled_under value (pairs_of (map pair_shape ps)))) in
    passed (left c.loop-pair.rest) c.deref-pair-items.result.now c.loop-pair.pair-index _ c.loop-pair.invariant (left c.in-Some.behind) c.pair-item.result c.loop-pair-test.true c.pair-item.is
    (λ rest. count_on c.loop-pair.rest (nodes (filled value (shape c.pair-item.result.1))) (nodes_under (filled_under value (pairs_of (map pair_shape rest)))) c.in-Some.behind (sym c.in-Some.is ∙ c.in_ok-behind.ensures))
