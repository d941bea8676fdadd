use Rattle.std.proofs.Common.{refl}
use Rattle.link_planner.specs.Growing.{EnoughMtu}
use Rattle.link_planner.proofs.Mtu.{raise_mtu_next}
use Rattle.link_planner.proofs.Reached.{reached_pair, reached_unpaired}
use Rattle.link_planner.proofs.mtus.raise_mtu.Goals as goal

pub returns-in_err-link : goal.returns-in_err-link
returns-in_err-link c = rw c.from_residual.ensures (reached_unpaired EnoughMtu c.args.draft.now c.args.name.now c.in_err-link.ensures)

pub returns-then-has_less : goal.returns-then-has_less
returns-then-has_less c = raise_mtu_next c.args.draft.now c.laws.ensures c.args.name.now c.in_ok-link.link.now c.in_ok-link.there.now c.in_ok-link.ensures c.requires.stands (c.requires.base refl) c.if-has_less.ensures.yes

pub returns-else-has_less : goal.returns-else-has_less
returns-else-has_less c = reached_pair EnoughMtu c.args.draft.now c.args.name.now c.in_ok-link.link.now c.in_ok-link.there.now c.in_ok-link.ensures c.if-has_less.ensures.no
