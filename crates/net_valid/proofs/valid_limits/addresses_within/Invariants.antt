use Rattle.std.proofs.Common.{◌≡◌, ◌+◌, length}
use Rattle.net_model.specs.Valid.{address_count}
use Rattle.net_valid.proofs.valid_limits.addresses_within.Given as goal

-- the room that is left and what was counted are the limit
abbrev pub invariant-loop-link : goal.invariant-loop-link
invariant-loop-link l = 8192 + address_count l.left ≡ l.room + address_count l.fn.links

abbrev pub decreases-loop-link : goal.decreases-loop-link
decreases-loop-link l = length l.left
