use Rattle.link_planner.proofs.SameBonds.{same_bonds}
use Rattle.link_planner.proofs.settings.has_other_bond.Goals as goal

pub returns-clause-no : goal.returns-clause-no
returns-clause-no c = same_bonds c.args.link.now.bond c.args.opts.now c.ne.result c.ne.ensures
