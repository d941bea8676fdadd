use Rattle.std.proofs.Common.{◌≡◌, take}
use Rattle.std.specs.List.{flat_map}
use Rattle.route_merge.specs.Connected.{connected_of}
use Rattle.route_merge.proofs.connected.all_connected.Given as goal

-- the subnets of the links so far
abbrev pub invariant-loop-link : goal.invariant-loop-link
invariant-loop-link l = l.subnets.items ≡ flat_map connected_of (take l.link-index l.links)
