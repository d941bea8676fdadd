use Rattle.std.proofs.Common.{take}
use Rattle.route_merge.specs.Keys.{HasKeys}
use Rattle.route_merge.proofs.keys.keys_of.Given as goal

-- the keys of those so far
abbrev pub invariant-loop-route : goal.invariant-loop-route
invariant-loop-route l = HasKeys l.keys (take l.route-index l.routes)
