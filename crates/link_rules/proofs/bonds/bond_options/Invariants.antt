use Rattle.std.proofs.Common.{◌≡◌, not, drop, find}
use Rattle.net_model.specs.Options.{bond_fits}
use Rattle.merge_model.specs.Places.{at_link}
use Rattle.merge_model.specs.BrokenLinks.{bond_options}
use Rattle.link_rules.proofs.bonds.bond_options.Given as goal

-- those that are left decide
abbrev pub invariant-loop-at : goal.invariant-loop-at
invariant-loop-at l = at_link (find (λ x. not (bond_fits l.merged x x.kind)) (drop l.at l.links)) ≡ bond_options l.merged
