use Rattle.link_planner.specs.Growing.{SameMac}
use Rattle.link_planner.proofs.Macs.{mac_next}
use Rattle.link_planner.proofs.Reached.{reached_pair, reached_unpaired}
use Rattle.link_planner.proofs.settings.set_mac.Goals as goal

pub returns-in_err-link : goal.returns-in_err-link
returns-in_err-link c = rw c.from_residual.ensures (reached_unpaired SameMac c.args.draft.now c.args.name.now c.in_err-link.ensures)

pub returns-then-has_other_mac : goal.returns-then-has_other_mac
returns-then-has_other_mac c = mac_next c.args.draft.now c.laws.ensures c.args.name.now c.in_ok-link.link.now c.in_ok-link.there.now c.in_ok-link.ensures c.requires.stands c.if-has_other_mac.ensures.yes

pub returns-else-has_other_mac : goal.returns-else-has_other_mac
returns-else-has_other_mac c = reached_pair SameMac c.args.draft.now c.args.name.now c.in_ok-link.link.now c.in_ok-link.there.now c.in_ok-link.ensures c.if-has_other_mac.ensures.no
