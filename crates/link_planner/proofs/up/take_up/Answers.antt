use Rattle.std.proofs.Common.{refl}
use Rattle.link_planner.specs.Growing.{SameUp}
use Rattle.link_planner.proofs.Editing.{way_of}
use Rattle.link_planner.proofs.Upping.{up_next}
use Rattle.link_planner.proofs.Reached.{reached_pair, reached_unpaired}
use Rattle.link_planner.proofs.up.take_up.Goals as goal

pub returns-in_err-link : goal.returns-in_err-link
returns-in_err-link c = rw c.from_residual.ensures (reached_unpaired SameUp c.args.draft.now c.args.name.now c.in_err-link.ensures)

pub must_rise-requires : goal.must_rise-requires
must_rise-requires c =
    let pair = c.in_ok-link.ensures in
    (way_of c.args.draft.now.target c.args.draft.now.net c.requires.stands.toward c.args.name.now c.in_ok-link.link.now c.in_ok-link.there.now pair.here pair.at).up

pub returns-then-must_rise : goal.returns-then-must_rise
returns-then-must_rise c =
    up_next c.args.draft.now c.laws.ensures c.requires.stands c.args.name.now c.in_ok-link.link.now c.in_ok-link.there.now c.in_ok-link.ensures (c.requires.base refl) c.if-must_rise.ensures.yes.0 c.if-must_rise.ensures.yes.1

pub returns-else-must_rise : goal.returns-else-must_rise
returns-else-must_rise c = reached_pair SameUp c.args.draft.now c.args.name.now c.in_ok-link.link.now c.in_ok-link.there.now c.in_ok-link.ensures c.if-must_rise.ensures.no
