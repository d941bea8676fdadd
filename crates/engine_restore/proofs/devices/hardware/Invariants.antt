use Rattle.std.proofs.Common.{◌≡◌, take}
use Rattle.net_model.specs.Hardware.{hardware}
use Rattle.engine_restore.proofs.devices.hardware.Given as goal

-- those of the links so far
abbrev pub invariant-loop-link : goal.invariant-loop-link
invariant-loop-link l = l.devices.items ≡ hardware (take l.link-index l.links)
