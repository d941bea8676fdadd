use Rattle.std.proofs.Common.{◌∙◌, map, sym, ap}
use Rattle.std.proofs.lemmas.List.{take_all}
use Rattle.doc_tree.specs.Shape.{shape, pair_shape, shapes_of, pairs_of, list, mapping}
use Rattle.doc_tree.proofs.lemmas.Trees.{shape-List, shape-Map}
use Rattle.policy_lang.proofs.lemmas.Walks.{made_on, both_same}
use Rattle.policy_lang.proofs.copy.+copies.Goals as goal

pub copy_trees-loop-tree-preserved : goal.copy_trees-loop-tree-preserved
copy_trees-loop-tree-preserved t c =
    made_on shape shape c.deref-tree-items.result.now c.loop-tree.tree-index c.loop-tree.copies.items c.loop-tree.invariant c.tree-item.result _ c.in_ok-copy_tree.field-0
    c.loop-tree-test.true c.tree-item.is c.in_ok-copy_tree.ensures c.in_ok-push.ensures.items

pub copy_pairs-loop-pair-preserved : goal.copy_pairs-loop-pair-preserved
copy_pairs-loop-pair-preserved t c =
    let p = c.pair-item.result in
    made_on pair_shape pair_shape c.deref-pair-items.result.now c.loop-pair.pair-index c.loop-pair.copies.items c.loop-pair.invariant p _ (c.in_ok-key.key, c.in_ok-copy_tree.field-0)
    c.loop-pair-test.true c.pair-item.is (both_same (c.in_ok-key.key, shape c.in_ok-copy_tree.field-0) (pair_shape p) c.in_ok-key.ensures c.in_ok-copy_tree.ensures) c.in_ok-push.ensures.items

pub copy_trees-loop-tree-init : goal.copy_trees-loop-tree-init
copy_trees-loop-tree-init t c = ap (map shape) c.in_ok-copies.ensures.items

pub copy_pairs-loop-pair-init : goal.copy_pairs-loop-pair-init
copy_pairs-loop-pair-init t c = ap (map pair_shape) c.in_ok-copies.ensures.items

pub copy_trees-returns : goal.copy_trees-returns
copy_trees-returns t c = c.loop-tree.invariant ∙ ap (map shape) (take_all c.loop-tree.tree-index c.deref-tree-items.result.now c.loop-tree-test.false ∙ c.deref-tree-items.ensures.value)

pub copy_pairs-returns : goal.copy_pairs-returns
copy_pairs-returns t c = c.loop-pair.invariant ∙ ap (map pair_shape) (take_all c.loop-pair.pair-index c.deref-pair-items.result.now c.loop-pair-test.false ∙ c.deref-pair-items.ensures.value)

pub copy_tree-returns-in-Null : goal.copy_tree-returns-in-Null
copy_tree-returns-in-Null t c = ap shape (sym c.in-Null.is)

pub copy_tree-returns-in-Bool : goal.copy_tree-returns-in-Bool
copy_tree-returns-in-Bool t c = ap shape (sym c.in-Bool.is)

pub copy_tree-returns-in-Ok-copy_trees : goal.copy_tree-returns-in-Ok-copy_trees
copy_tree-returns-in-Ok-copy_trees t c = shape-List _ ∙ ap (λ ss. list (shapes_of ss)) c.in-Ok-copy_trees.ensures ∙ sym (shape-List _) ∙ ap shape (sym c.in-List.is)

pub copy_tree-returns-in-Ok-copy_pairs : goal.copy_tree-returns-in-Ok-copy_pairs
copy_tree-returns-in-Ok-copy_pairs t c = shape-Map _ ∙ ap (λ ps. mapping (pairs_of ps)) c.in-Ok-copy_pairs.ensures ∙ sym (shape-Map _) ∙ ap shape (sym c.in-Map.is)
