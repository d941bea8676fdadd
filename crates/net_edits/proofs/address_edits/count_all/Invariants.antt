use Rattle.std.proofs.Common.{◌≡◌, ◌+◌, length}
use Rattle.net_model.specs.Valid.{address_count}
use Rattle.net_edits.proofs.address_edits.count_all.Given as goal

-- what was counted and what is left are all
abbrev pub invariant-loop-link : goal.invariant-loop-link
invariant-loop-link l = l.count + address_count l.left ≡ address_count l.fn.links

abbrev pub decreases-loop-link : goal.decreases-loop-link
decreases-loop-link l = length l.left
