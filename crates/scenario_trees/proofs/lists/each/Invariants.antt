use Rattle.std.proofs.Common.{◌≡◌, map, take}
use Rattle.doc_tree.specs.Shape.{shape}
use Rattle.scenario_trees.proofs.lists.each.Given as goal

abbrev pub invariant-loop-device : goal.invariant-loop-device
invariant-loop-device g l = map shape l.trees.items ≡ map g.E.Entry.tree (take l.device-index l.devices)
