use Rattle.std.proofs.Common.{◌≡◌, map, take}
use Rattle.doc_tree.specs.Shape.{shape}
use Rattle.show_core.proofs.values.each.Given as goal

abbrev pub invariant-loop-item : goal.invariant-loop-item
invariant-loop-item g l = map shape l.trees.items ≡ map g.T.Shown.tree (take l.item-index l.items)
