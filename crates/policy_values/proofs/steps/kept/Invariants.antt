use Rattle.std.proofs.Common.{◌≡◌, take, map, flat_map}
use Rattle.doc_tree.specs.Shape.{shape}
use Rattle.policy_values.specs.Lists.{kept_of}
use Rattle.policy_values.proofs.steps.kept.Given as goal

abbrev pub invariant-loop-tree : goal.invariant-loop-tree
invariant-loop-tree l = map shape l.found.items ≡ flat_map (kept_of l.value l.path) (take l.tree-index l.tree-items)
