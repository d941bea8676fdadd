use Rattle.std.proofs.Common.{take}
use Rattle.net_model.specs.Twins.{HasVlans}
use Rattle.net_lists.proofs.twins.add_vlan_keys.Given as goal

-- the set has the keys of the VLANs so far
abbrev pub invariant-loop-at : goal.invariant-loop-at
invariant-loop-at l = HasVlans l.seen (take l.at l.links)
