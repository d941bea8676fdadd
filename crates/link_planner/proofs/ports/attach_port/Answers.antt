use Rattle.std.proofs.Common.{sym, ◌∙◌}
use Rattle.link_planner.specs.Growing.{SameController}
use Rattle.link_planner.proofs.Attaching.{attach_next}
use Rattle.link_planner.proofs.Reached.{reached_free, reached_pair, reached_unpaired}
use Rattle.link_planner.proofs.ports.attach_port.Goals as goal

pub returns-in_err-link : goal.returns-in_err-link
returns-in_err-link c = rw c.from_residual.ensures (reached_unpaired SameController c.args.draft.now c.args.name.now c.in_err-link.ensures)

pub returns-in_default : goal.returns-in_default
returns-in_default c = reached_free c.args.draft.now c.requires.stands.toward c.args.name.now c.in_ok-link.link.now c.in_ok-link.there.now c.in_ok-link.ensures c.in_default.is

pub returns-then-has_other_controller : goal.returns-then-has_other_controller
returns-then-has_other_controller c =
    attach_next c.args.draft.now c.laws.ensures c.requires.stands c.args.name.now c.in-Some.controller c.in_ok-link.link.now c.in_ok-link.there.now c.in_ok-link.ensures c.in-Some.is c.if-has_other_controller.ensures.yes

pub returns-else-has_other_controller : goal.returns-else-has_other_controller
returns-else-has_other_controller c =
    reached_pair SameController c.args.draft.now c.args.name.now c.in_ok-link.link.now c.in_ok-link.there.now c.in_ok-link.ensures (c.if-has_other_controller.ensures.no ∙ sym c.in-Some.is)
