use Rattle.std.proofs.Common.{◌≡◌, length}
use Rattle.net_model.specs.Valid.{addresses_differ}
use Rattle.net_valid.proofs.valid_links.addresses_differ.Given as goal

-- what is left decides
abbrev pub invariant-loop-prefix : goal.invariant-loop-prefix
invariant-loop-prefix l = addresses_differ l.left ≡ addresses_differ l.fn.addrs

abbrev pub decreases-loop-prefix : goal.decreases-loop-prefix
decreases-loop-prefix l = length l.left
