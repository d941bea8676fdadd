use Rattle.std.proofs.Common.{◌≡◌, ◌∙◌, ap, List}
use Rattle.doc_tree.specs.Shape.{shape}
use Rattle.scenario_model.specs.Draws.{devices}
use Rattle.scenario_model.specs.Trees.{hardware_tree, first_tree, second_tree}
use Rattle.scenario_trees.proofs.Plain.{all_plain}
use Rattle.scenario_trees.proofs.inputs.trees.Goals as goal

pub returns-clause-plain : goal.returns-clause-plain
returns-clause-plain c =
    let same : c.as_slice-all.result.now ≡ devices c.args.seed c.args.n = c.as_slice-all.ensures.value ∙ c.in_ok-made.ensures in
    all_plain c.args.seed c.args.n c.requires.most (shape c.in_ok-hardware.hardware) (shape c.in_ok-first.first) (shape c.in_ok-second.second)
    (c.in_ok-hardware.ensures ∙ ap hardware_tree same) (c.in_ok-first.ensures ∙ ap first_tree same) (c.in_ok-second.ensures ∙ ap second_tree same)
