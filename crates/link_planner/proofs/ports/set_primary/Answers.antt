use Rattle.link_planner.specs.Growing.{SameBond}
use Rattle.link_planner.proofs.Bonds.{primary_next}
use Rattle.link_planner.proofs.Reached.{reached_pair, reached_unpaired}
use Rattle.link_planner.proofs.ports.set_primary.Goals as goal

pub returns-in_err-link : goal.returns-in_err-link
returns-in_err-link c = rw c.from_residual.ensures (reached_unpaired SameBond c.args.draft.now c.args.name.now c.in_err-link.ensures)

pub returns-then-has_other_bond : goal.returns-then-has_other_bond
returns-then-has_other_bond c = primary_next c.args.draft.now c.laws.ensures c.args.name.now c.in_ok-link.link.now c.in_ok-link.there.now c.in_ok-link.ensures c.requires.stands c.if-has_other_bond.ensures.yes

pub returns-else-has_other_bond : goal.returns-else-has_other_bond
returns-else-has_other_bond c = reached_pair SameBond c.args.draft.now c.args.name.now c.in_ok-link.link.now c.in_ok-link.there.now c.in_ok-link.ensures c.if-has_other_bond.ensures.no
