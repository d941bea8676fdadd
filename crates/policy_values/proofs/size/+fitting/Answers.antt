use Rattle.std.proofs.Common.{◌∙◌, Bool, List, ℕ, map, sym, ap, false}
use Rattle.std.specs.Prelude.{nat_le}
use Rattle.doc_tree.specs.Shape.{shape, shapes_of, pair_shape, pairs_of, levels, shapes_levels, pairs_levels}
use Rattle.doc_tree.specs.declared.Tree.{Tree}
use Rattle.policy_lang.proofs.lemmas.Walks.{passed, settles}
use Rattle.policy_values.proofs.Walks.{fits_on, fits_not}
use Rattle.policy_values.proofs.size.+fitting.Goals as goal

pub all_fit-loop-tree-preserved : goal.all_fit-loop-tree-preserved
all_fit-loop-tree-preserved t c =
    let fit : List Tree → Bool = λ ts. nat_le (shapes_levels (shapes_of (map shape ts))) c.args.room in
    passed fit c.deref-tree-items.result.now c.loop-tree.tree-index _ c.loop-tree.invariant fit c.tree-item.result c.loop-tree-test.true c.tree-item.is
    (λ rest. fits_on (levels (shape c.tree-item.result)) (shapes_levels (shapes_of (map shape rest))) c.args.room (sym c.fits.ensures ∙ c.if-not-fits.false))

pub all_fit-returns-then-not-fits : goal.all_fit-returns-then-not-fits
all_fit-returns-then-not-fits t c =
    let fit : List Tree → Bool = λ ts. nat_le (shapes_levels (shapes_of (map shape ts))) c.args.room in
    settles fit c.deref-tree-items.result.now c.loop-tree.tree-index _ c.loop-tree.invariant false c.tree-item.result c.loop-tree-test.true c.tree-item.is
    (λ rest. fits_not (levels (shape c.tree-item.result)) (shapes_levels (shapes_of (map shape rest))) c.args.room (sym c.fits.ensures ∙ c.if-not-fits.true))
    ∙ ap fit c.deref-tree-items.ensures.value

pub pairs_fit-loop-pair-preserved : goal.pairs_fit-loop-pair-preserved
pairs_fit-loop-pair-preserved t c =
    let fit : List (List ℕ × Tree) → Bool = λ ps. nat_le (pairs_levels (pairs_of (map pair_shape ps))) c.args.room in
    passed fit c.deref-pair-items.result.now c.loop-pair.pair-index _ c.loop-pair.invariant fit c.pair-item.result c.loop-pair-test.true c.pair-item.is
    (λ rest. fits_on (levels (shape c.pair-item.result.1)) (pairs_levels (pairs_of (map pair_shape rest))) c.args.room (sym c.fits.ensures ∙ c.if-not-fits.false))

pub pairs_fit-returns-then-not-fits : goal.pairs_fit-returns-then-not-fits
pairs_fit-returns-then-not-fits t c =
    let fit : List (List ℕ × Tree) → Bool = λ ps. nat_le (pairs_levels (pairs_of (map pair_shape ps))) c.args.room in
    settles fit c.deref-pair-items.result.now c.loop-pair.pair-index _ c.loop-pair.invariant false c.pair-item.result c.loop-pair-test.true c.pair-item.is
    (λ rest. fits_not (levels (shape c.pair-item.result.1)) (pairs_levels (pairs_of (map pair_shape rest))) c.args.room (sym c.fits.ensures ∙ c.if-not-fits.true))
    ∙ ap fit c.deref-pair-items.ensures.value
