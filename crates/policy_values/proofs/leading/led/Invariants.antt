use Rattle.std.proofs.Common.{◌≡◌, drop}
use Rattle.doc_tree.specs.Shape.{shape}
use Rattle.policy_model.specs.Leading.{led}
use Rattle.policy_values.proofs.leading.led.Given as goal

abbrev pub invariant-loop-key : goal.invariant-loop-key
invariant-loop-key l = led (drop l.key-index l.keys) (shape l.at) ≡ led l.keys (shape l.tree)
