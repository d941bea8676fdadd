use Rattle.std.proofs.Common.{◌≡◌, length}
use Rattle.net_model.specs.Hardware.{hardware}
use Rattle.net_valid.proofs.hardware.behind.Given as goal

-- none so far is an Ethernet link
abbrev pub invariant-loop-link : goal.invariant-loop-link
invariant-loop-link l = hardware l.left ≡ hardware l.fn.links

abbrev pub decreases-loop-link : goal.decreases-loop-link
decreases-loop-link l = length l.left
