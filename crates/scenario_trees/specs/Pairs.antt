-- What a map holds that is being built.
use Rattle.std.specs.Prelude.{map}
use Rattle.doc_tree.specs.Shape.{pair_shape}
use Rattle.show_core.specs.Fields.{Fields}
use Rattle.scenario_trees.specs.declared.pairs.Pairs.{Pairs}

-- each key with the shape of its tree
abbrev pub held : Pairs → Fields
held p = map pair_shape p.pairs.items
