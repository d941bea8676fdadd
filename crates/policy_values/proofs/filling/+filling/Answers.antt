use Rattle.std.proofs.Common.{◌∙◌, ℕ, List, map, ap, arith}
use Rattle.doc_tree.specs.Shape.{shape, shapes_of, pair_shape, pairs_of}
use Rattle.doc_tree.specs.declared.Tree.{Tree}
use Rattle.policy_model.specs.Places.{filled, filled_among, filled_under}
use Rattle.policy_values.specs.Tables.{found_in, filler, seen}
use Rattle.policy_values.specs.Lists.{filled_pair}
use Rattle.policy_values.proofs.Listed.{filled_done, filled_pairs_done}
use Rattle.policy_lang.proofs.lemmas.Walks.{made_on, both_same}
use Rattle.policy_values.proofs.filling.+filling.Goals as goal

pub filled_among-loop-tree-preserved : goal.filled_among-loop-tree-preserved
filled_among-loop-tree-preserved t c =
    let value = filler (found_in c.args.captures.now (seen c.args.table.now)) in
    made_on shape (λ t. filled value (shape t)) c.deref-tree-items.result.now c.loop-tree.tree-index c.loop-tree.found.items c.loop-tree.invariant c.tree-item.result _ c.in_ok-filled.field-0
    c.loop-tree-test.true c.tree-item.is c.in_ok-filled.ensures c.in_ok-push.ensures.items

pub filled_under-loop-pair-preserved : goal.filled_under-loop-pair-preserved
filled_under-loop-pair-preserved t c =
    let value = filler (found_in c.args.captures.now (seen c.args.table.now)) in
    let p = c.pair-item.result in
    made_on pair_shape (filled_pair value) c.deref-pair-items.result.now c.loop-pair.pair-index c.loop-pair.found.items c.loop-pair.invariant p _ (c.in_ok-key.key, c.in_ok-filled.field-0)
    c.loop-pair-test.true c.pair-item.is (both_same (c.in_ok-key.key, shape c.in_ok-filled.field-0) (filled_pair value p) c.in_ok-key.ensures c.in_ok-filled.ensures) c.in_ok-push.ensures.items

pub filled_among-returns : goal.filled_among-returns
filled_among-returns t c =
    let value = filler (found_in c.args.captures.now (seen c.args.table.now)) in
    filled_done value c.deref-tree-items.result.now c.loop-tree.tree-index (map shape c.loop-tree.found.items) (omega arith) c.loop-tree.invariant
    ∙ ap (λ (ts : List Tree). filled_among value (shapes_of (map shape ts))) c.deref-tree-items.ensures.value

pub filled_under-returns : goal.filled_under-returns
filled_under-returns t c =
    let value = filler (found_in c.args.captures.now (seen c.args.table.now)) in
    filled_pairs_done value c.deref-pair-items.result.now c.loop-pair.pair-index (map pair_shape c.loop-pair.found.items) (omega arith) c.loop-pair.invariant
    ∙ ap (λ (ps : List (List ℕ × Tree)). filled_under value (pairs_of (map pair_shape ps))) c.deref-pair-items.ensures.value
