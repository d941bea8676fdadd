use Rattle.std.proofs.Common.{◌∙◌, Bool, List, ℕ, map, sym, arith}
use Rattle.std.specs.Prelude.{nat_le}
use Rattle.doc_tree.specs.Shape.{shape, shapes_of, pair_shape, pairs_of, levels, shapes_levels, pairs_levels}
use Rattle.doc_tree.specs.declared.Tree.{Tree}
use Rattle.policy_model.specs.Places.{filled, filled_among, filled_under}
use Rattle.policy_values.specs.Tables.{found_in, filler, seen}
use Rattle.policy_values.proofs.Sized.{no_room}
use Rattle.policy_lang.proofs.lemmas.Walks.{passed}
use Rattle.policy_values.proofs.Walks.{fits_on}
use Rattle.policy_values.proofs.filling.+filled_levels.Goals as goal

pub filled_fits-returns-then-room-eq0 : goal.filled_fits-returns-then-room-eq0
filled_fits-returns-then-room-eq0 t c = no_room c.args.room (filled (filler (found_in c.args.captures.now (seen c.args.table.now))) (shape c.args.tree.now)) (omega arith)

pub filled_all_fit-loop-tree-preserved : goal.filled_all_fit-loop-tree-preserved
filled_all_fit-loop-tree-preserved t c =
    let value = filler (found_in c.args.captures.now (seen c.args.table.now)) in
    let fit : List Tree → Bool = λ ts. nat_le (shapes_levels (filled_among value (shapes_of (map shape ts)))) c.args.room in
    passed fit c.deref-tree-items.result.now c.loop-tree.tree-index _ c.loop-tree.invariant fit c.tree-item.result c.loop-tree-test.true c.tree-item.is
    (λ rest. fits_on (levels (filled value (shape c.tree-item.result))) (shapes_levels (filled_among value (shapes_of (map shape rest)))) c.args.room (sym c.in_ok-filled_fits.ensures ∙ c.if-not-branch.false))

pub filled_pairs_fit-loop-pair-preserved : goal.filled_pairs_fit-loop-pair-preserved
filled_pairs_fit-loop-pair-preserved t c =
    let value = filler (found_in c.args.captures.now (seen c.args.table.now)) in
    let fit : List (List ℕ × Tree) → Bool = λ ps. nat_le (pairs_levels (filled_under value (pairs_of (map pair_shape ps)))) c.args.room in
    passed fit c.deref-pair-items.result.now c.loop-pair.pair-index _ c.loop-pair.invariant fit c.pair-item.result c.loop-pair-test.true c.pair-item.is
    (λ rest. fits_on (levels (filled value (shape c.pair-item.result.1))) (pairs_levels (filled_under value (pairs_of (map pair_shape rest)))) c.args.room (sym c.in_ok-filled_fits.ensures ∙ c.if-not-branch.false))
