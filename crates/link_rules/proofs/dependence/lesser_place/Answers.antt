use Rattle.std.proofs.Common.{subst}
use Rattle.link_rules.specs.Candidates.{IsLeastOf}
use Rattle.link_rules.proofs.Candidates.{marked_first}
use Rattle.link_rules.proofs.dependence.lesser_place.Goals as goal

pub returns-in-None : goal.returns-in-None
returns-in-None c = marked_first c.args.links.now c.args.may.now c.args.at c.requires.inside (subst (IsLeastOf c.args.links.now c.args.may.now c.args.at) c.in-None.is c.requires.least)
