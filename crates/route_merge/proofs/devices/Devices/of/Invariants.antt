use Rattle.std.proofs.Common.{◌≡◌, ℕ, ◌≤◌, List, length, drop, slice_get}
use Rattle.std.specs.Option.{option_and_then}
use Rattle.std.specs.BTreeMap.{get}
use Rattle.net_model.specs.Order.{name_cmp}
use Rattle.net_model.specs.Links.{find_link}
use Rattle.route_merge.proofs.devices.Devices.of.Given as goal

-- the map has the places of the links from this one on
abbrev pub invariant-loop-at : goal.invariant-loop-at
invariant-loop-at l = (l.at ≤ length l.fn.links) × ((n : List ℕ) → option_and_then (λ i. slice_get l.fn.links i) (get name_cmp l.places n) ≡ find_link n (drop l.at l.fn.links))

abbrev pub decreases-loop-at : goal.decreases-loop-at
decreases-loop-at l = l.at
