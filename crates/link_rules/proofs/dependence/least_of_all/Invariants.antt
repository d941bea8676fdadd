use Rattle.std.proofs.Common.{◌≡◌, ◌≤◌, length, drop, filter}
use Rattle.std.specs.Option.{option_map}
use Rattle.net_model.specs.Dependence.{on_cycle}
use Rattle.merge_model.specs.Places.{least_name}
use Rattle.link_rules.proofs.dependence.least_of_all.Given as goal

-- the least name of those from here on
abbrev pub invariant-loop-left : goal.invariant-loop-left
invariant-loop-left l = (l.left ≤ length l.links) × (l.least ≡ option_map (λ x. x.name) (least_name (filter (on_cycle l.links) (drop l.left l.links))))

abbrev pub decreases-loop-left : goal.decreases-loop-left
decreases-loop-left l = l.left
