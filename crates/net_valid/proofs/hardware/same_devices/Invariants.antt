use Rattle.std.proofs.Common.{◌≡◌, length}
use Rattle.net_model.specs.Hardware.{hardware, same_devices}
use Rattle.net_valid.proofs.hardware.same_devices.Given as goal

-- what is left decides
abbrev pub invariant-loop-link : goal.invariant-loop-link
invariant-loop-link l = same_devices (hardware l.left) (hardware l.right) ≡ same_devices (hardware l.fn.a) (hardware l.fn.b)

abbrev pub decreases-loop-link : goal.decreases-loop-link
decreases-loop-link l = length l.left
