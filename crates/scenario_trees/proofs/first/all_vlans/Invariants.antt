use Rattle.std.proofs.Common.{◌≡◌, map, take}
use Rattle.std.specs.List.{flat_map}
use Rattle.doc_tree.specs.Shape.{shape}
use Rattle.scenario_model.specs.Trees.{vlans}
use Rattle.scenario_trees.proofs.first.all_vlans.Given as goal

abbrev pub invariant-loop-device : goal.invariant-loop-device
invariant-loop-device l = map shape l.trees.items ≡ flat_map vlans (take l.device-index l.devices)
