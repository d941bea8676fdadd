use Rattle.std.proofs.Common.{sym, subst}
use Rattle.net_model.specs.Arrows.{Draws}
use Rattle.net_model.proofs.lemmas.Drawn.{none_drawn}
use Rattle.net_valid.proofs.graph.add_arrows.Goals as goal

pub loop-at-init : goal.loop-at-init
loop-at-init c = subst (Draws c.args.links.now 0 0) (sym c.requires.none) (none_drawn c.args.links.now)
