use Rattle.std.proofs.Common.{subst}
use Rattle.net_model.specs.NetData.{IsNet}
use Rattle.net_model.proofs.lemmas.FactsHold.{facts}
use Rattle.net_core.proofs.net.Net.laws.Goals as goal

pub returns-clause-facts : goal.returns-clause-facts
returns-clause-facts c = facts c.args.self.now (subst IsNet c.self.view_is c.self.invariant)
