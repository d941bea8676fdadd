use Rattle.std.proofs.Common.{refl, lit<}
use Rattle.link_planner.specs.declared.phase.Phase.TheVariants.{RaiseMtus}
use Rattle.link_planner.specs.Growing.{SameMtu}
use Rattle.link_planner.proofs.Mtu.{lower_mtu_next}
use Rattle.link_planner.proofs.Reached.{reached_pair, reached_unpaired}
use Rattle.link_planner.proofs.mtus.lower_mtu.Goals as goal

pub returns-in_err-link : goal.returns-in_err-link
returns-in_err-link c = rw c.from_residual.ensures (reached_unpaired SameMtu c.args.draft.now c.args.name.now c.in_err-link.ensures)

pub has_more-requires : goal.has_more-requires
has_more-requires c =
    let pair = c.in_ok-link.ensures in
    c.requires.stands.done RaiseMtus refl (lit< tt) c.args.name.now c.in_ok-link.link.now c.in_ok-link.there.now pair.here pair.at

pub returns-then-has_more : goal.returns-then-has_more
returns-then-has_more c = lower_mtu_next c.args.draft.now c.laws.ensures c.args.name.now c.in_ok-link.link.now c.in_ok-link.there.now c.in_ok-link.ensures c.requires.stands c.if-has_more.ensures.yes

pub returns-else-has_more : goal.returns-else-has_more
returns-else-has_more c = reached_pair SameMtu c.args.draft.now c.args.name.now c.in_ok-link.link.now c.in_ok-link.there.now c.in_ok-link.ensures c.if-has_more.ensures.no
