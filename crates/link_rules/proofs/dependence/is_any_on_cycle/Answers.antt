use Rattle.std.proofs.Common.{sym, subst}
use Rattle.reach.specs.Reach.{IsGraph}
use Rattle.link_rules.proofs.Below.{below_graph}
use Rattle.link_rules.proofs.NoCycle.{decided_for}
use Rattle.link_rules.proofs.dependence.is_any_on_cycle.Goals as goal

pub has_cycle-requires : goal.has_cycle-requires
has_cycle-requires c = subst IsGraph (sym c.requires.arrows) (below_graph c.args.links.now)

pub returns : goal.returns
returns c = decided_for c.args.links.now c.requires.names c.in_ok-cycle.cycle c.args.arrows.now c.requires.arrows c.in_ok-cycle.ensures
