use Rattle.std.proofs.Common.{◌≡◌, take}
use Rattle.engine_model.specs.Differing.{lacking}
use Rattle.engine_restore.proofs.devices.lacking.Given as goal

-- those of the devices so far
abbrev pub invariant-loop-device : goal.invariant-loop-device
invariant-loop-device l = l.names.items ≡ lacking (take l.device-index l.ours) l.theirs
