use Rattle.std.proofs.Common.{◌≡◌, true, take}
use Rattle.net_model.specs.Twins.{HasVlans}
use Rattle.net_model.specs.Valid.{vlans_differ}
use Rattle.net_lists.proofs.twins.vlans_differ.Given as goal

-- the set has the keys of the VLANs so far, which differ
abbrev pub invariant-loop-i : goal.invariant-loop-i
invariant-loop-i l = record {
  seen : HasVlans l.seen (take l.i l.links);
  differ : vlans_differ (take l.i l.links) ≡ true;
}
