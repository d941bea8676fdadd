use Rattle.std.proofs.Common.{◌≤◌, length, map, refl, subst, arith}
use Rattle.std.specs.Prelude.{Err}
use Rattle.doc_tree.specs.Shape.{shape, pair_shape, shapes_of, pairs_of, list, mapping}
use Rattle.doc_tree.specs.Writing.{MakesValue}
use Rattle.doc_tree.proofs.WriteLemmas.{map_on, map_end, map_stop, list_on, list_end, list_stop}
use Rattle.doc_tree.proofs.write.+values.Goals as goal

pub object_of-loop-key-preserved : goal.object_of-loop-key-preserved
object_of-loop-key-preserved t c =
    let l = c.loop-key in
    map_on l.key-index c.deref-key-items.result.now _ l.invariant _ c.loop-key-item.result c.in-Ok.value c.loop-key-test.true c.loop-key-item.is c.in-Ok.ensures c.in-Ok-put.ensures

pub object_of-returns : goal.object_of-returns
object_of-returns t c =
    let past : length c.deref-key-items.result.now ≤ c.loop-key.key-index = omega arith in
    rw (← c.deref-key-items.ensures.value) (map_end c.loop-key.key-index c.deref-key-items.result.now _ c.loop-key.invariant c.loop-key.members refl past)

pub object_of-returns-in-Err : goal.object_of-returns-in-Err
object_of-returns-in-Err t c =
    let l = c.loop-key in
    subst (λ xs. MakesValue (mapping (pairs_of (map pair_shape xs))) (Err c.in-Err.fault)) c.deref-key-items.ensures.value
    (map_stop l.key-index c.deref-key-items.result.now _ l.invariant c.loop-key-item.result c.in-Err.fault c.loop-key-test.true c.loop-key-item.is c.in-Err.ensures)

pub array_of-loop-tree-preserved : goal.array_of-loop-tree-preserved
array_of-loop-tree-preserved t c =
    let l = c.loop-tree in
    list_on l.tree-index c.deref-tree-items.result.now _ l.invariant _ c.tree-item.result c.in-Ok.value c.loop-tree-test.true c.tree-item.is c.in-Ok.ensures c.in_ok-push-in-Ok.ensures.items

pub array_of-returns : goal.array_of-returns
array_of-returns t c =
    let past : length c.deref-tree-items.result.now ≤ c.loop-tree.tree-index = omega arith in
    rw (← c.deref-tree-items.ensures.value) (list_end c.loop-tree.tree-index c.deref-tree-items.result.now _ c.loop-tree.invariant c.loop-tree.values refl past)

pub array_of-returns-in-Err : goal.array_of-returns-in-Err
array_of-returns-in-Err t c =
    let l = c.loop-tree in
    subst (λ xs. MakesValue (list (shapes_of (map shape xs))) (Err c.in-Err.fault)) c.deref-tree-items.ensures.value
    (list_stop l.tree-index c.deref-tree-items.result.now _ l.invariant c.tree-item.result c.in-Err.fault c.loop-tree-test.true c.tree-item.is c.in-Err.ensures)
