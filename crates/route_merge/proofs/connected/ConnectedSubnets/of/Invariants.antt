use Rattle.std.proofs.Common.{take}
use Rattle.route_merge.specs.Connected.{HasLengths, HasConnected}
use Rattle.route_merge.proofs.connected.ConnectedSubnets.of.Given as goal

-- the index of those so far
abbrev pub invariant-loop-subnet : goal.invariant-loop-subnet
invariant-loop-subnet l = HasLengths l.lengths.items (take l.subnet-index l.subnet-items) × HasConnected l.subnets (take l.subnet-index l.subnet-items)
