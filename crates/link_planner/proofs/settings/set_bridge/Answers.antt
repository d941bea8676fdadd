use Rattle.link_planner.specs.Growing.{SameBridge}
use Rattle.link_planner.proofs.Bridges.{bridge_next}
use Rattle.link_planner.proofs.Reached.{reached_pair, reached_unpaired}
use Rattle.link_planner.proofs.settings.set_bridge.Goals as goal

pub returns-in_err-link : goal.returns-in_err-link
returns-in_err-link c = rw c.from_residual.ensures (reached_unpaired SameBridge c.args.draft.now c.args.name.now c.in_err-link.ensures)

pub returns-then-has_other_bridge : goal.returns-then-has_other_bridge
returns-then-has_other_bridge c = bridge_next c.args.draft.now c.laws.ensures c.args.name.now c.in_ok-link.link.now c.in_ok-link.there.now c.in_ok-link.ensures c.requires.stands c.if-has_other_bridge.ensures.yes

pub returns-else-has_other_bridge : goal.returns-else-has_other_bridge
returns-else-has_other_bridge c = reached_pair SameBridge c.args.draft.now c.args.name.now c.in_ok-link.link.now c.in_ok-link.there.now c.in_ok-link.ensures c.if-has_other_bridge.ensures.no
