use Rattle.link_planner.specs.Growing.{SamePort}
use Rattle.link_planner.proofs.PortOptions.{port_next}
use Rattle.link_planner.proofs.Reached.{reached_pair, reached_unpaired}
use Rattle.link_planner.proofs.ports.set_port.Goals as goal

pub returns-in_err-link : goal.returns-in_err-link
returns-in_err-link c = rw c.from_residual.ensures (reached_unpaired SamePort c.args.draft.now c.args.name.now c.in_err-link.ensures)

pub returns-then-has_other_port : goal.returns-then-has_other_port
returns-then-has_other_port c = port_next c.args.draft.now c.laws.ensures c.args.name.now c.in_ok-link.link.now c.in_ok-link.there.now c.in_ok-link.ensures c.requires.stands c.if-has_other_port.ensures.yes

pub returns-else-has_other_port : goal.returns-else-has_other_port
returns-else-has_other_port c = reached_pair SamePort c.args.draft.now c.args.name.now c.in_ok-link.link.now c.in_ok-link.there.now c.in_ok-link.ensures c.if-has_other_port.ensures.no
