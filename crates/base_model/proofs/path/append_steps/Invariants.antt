use Rattle.std.proofs.Common.{◌≡◌, ◌++◌, take}
use Rattle.base_model.specs.PathText.{steps_text}
use Rattle.base_model.proofs.path.append_steps.Given as goal

abbrev pub invariant-loop-step : goal.invariant-loop-step
invariant-loop-step l = l.out.items ≡ l.initial.out.items ++ steps_text (take l.step-index l.steps)
