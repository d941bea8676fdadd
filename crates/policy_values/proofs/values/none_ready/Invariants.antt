use Rattle.std.proofs.Common.{◌≡◌, take, map, false}
use Rattle.policy_model.specs.declared.capture.Capture.{Capture}
use Rattle.policy_values.proofs.values.none_ready.Given as goal

abbrev pub invariant-loop-capture : goal.invariant-loop-capture
invariant-loop-capture l = l.flags.items ≡ map (λ (c : Capture). false) (take l._capture-index l.captures)
