use Rattle.std.proofs.Common.{◌≡◌, not, drop, find}
use Rattle.net_model.specs.Valid.{addresses_differ}
use Rattle.merge_model.specs.Places.{at_link}
use Rattle.merge_model.specs.BrokenLinks.{address_twice}
use Rattle.link_rules.proofs.twice.address_twice.Given as goal

-- those that are left decide
abbrev pub invariant-loop-at : goal.invariant-loop-at
invariant-loop-at l = at_link (find (λ x. not (addresses_differ x.addrs)) (drop l.at l.links)) ≡ address_twice l.links
