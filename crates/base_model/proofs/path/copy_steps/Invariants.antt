use Rattle.std.proofs.Common.{◌≡◌, take}
use Rattle.base_model.proofs.path.copy_steps.Given as goal

-- the steps so far
abbrev pub invariant-loop-step : goal.invariant-loop-step
invariant-loop-step l = l.copies.items ≡ take l.step-index l.step-items
