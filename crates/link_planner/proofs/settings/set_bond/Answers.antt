use Rattle.std.proofs.Common.{sym, subst}
use Rattle.link_planner.specs.Growing.{NearBond, AlmostSameBond}
use Rattle.link_planner.proofs.Bonds.{bond_next}
use Rattle.link_planner.proofs.Reached.{reached_pair, reached_unpaired}
use Rattle.link_planner.proofs.settings.set_bond.Goals as goal

pub returns-in_err-link : goal.returns-in_err-link
returns-in_err-link c = rw c.from_residual.ensures (reached_unpaired AlmostSameBond c.args.draft.now c.args.name.now c.in_err-link.ensures)

pub returns-then-has_other_bond : goal.returns-then-has_other_bond
returns-then-has_other_bond c =
    bond_next c.args.draft.now c.laws.ensures c.args.name.now c.in_ok-link.link.now c.in_ok-link.there.now c.in_ok-link.ensures c.requires.stands c.fitting-opts.result (rw c.net.ensures at c.fitting-opts.ensures) c.if-has_other_bond.ensures.yes

pub returns-else-has_other_bond : goal.returns-else-has_other_bond
returns-else-has_other_bond c =
    reached_pair AlmostSameBond c.args.draft.now c.args.name.now c.in_ok-link.link.now c.in_ok-link.there.now c.in_ok-link.ensures (subst (NearBond c.in_ok-link.there.now.bond) (sym c.if-has_other_bond.ensures.no) c.fitting-opts.ensures.near)
