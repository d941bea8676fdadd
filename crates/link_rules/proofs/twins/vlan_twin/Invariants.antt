use Rattle.std.proofs.Common.{◌≡◌, [], take, drop}
use Rattle.net_model.specs.Links.{is_twin}
use Rattle.merge_model.specs.Places.{at_link, first_second}
use Rattle.merge_model.specs.BrokenLinks.{vlan_twin}
use Rattle.merge_model.proofs.lemmas.FirstSecond.{seen_so_far}
use Rattle.net_model.specs.Twins.{HasVlans}
use Rattle.link_rules.proofs.twins.vlan_twin.Given as goal

-- the set has the VLANs so far, and it is looked for among those that are left
abbrev pub invariant-loop-i : goal.invariant-loop-i
invariant-loop-i l = HasVlans l.seen (take l.i l.links) × (at_link (first_second (λ a b. is_twin a.kind b.kind) (seen_so_far [] (take l.i l.links)) (drop l.i l.links)) ≡ vlan_twin l.links)
