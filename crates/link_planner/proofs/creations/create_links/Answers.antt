use Rattle.std.proofs.Common.{arith, sym, subst}
use Rattle.std.proofs.lemmas.Result.{on_ok_weaker}
use Rattle.link_planner.specs.declared.phase.Phase.TheVariants.{CreateLinks}
use Rattle.link_planner.specs.Drafts.{Holds}
use Rattle.link_planner.specs.Phases.{HasRun, IsAlong}
use Rattle.link_planner.specs.Creations.{noted}
use Rattle.link_planner.proofs.Creating.{noted_none}
use Rattle.link_planner.proofs.Phasing.{along_none, along_due, along_more, along_all}
use Rattle.link_planner.proofs.creations.create_links.Goals as goal

pub loop-name-init : goal.loop-name-init
loop-name-init c =
    let same = sym (noted_none c.none-creations.result c.args.draft.now c.laws.ensures.net c.none-creations.ensures) in
    record {
      along = subst (IsAlong CreateLinks c.args.names.now 0 c.args.draft.now) same (along_none CreateLinks c.args.names.now c.args.draft.now c.requires.stands c.requires.order);
      holds = subst Holds same c.laws.ensures;
    }

pub create_next-requires : goal.create_next-requires
create_next-requires c = record {
  holds = c.loop-name.invariant.holds;
  due = along_due CreateLinks c.args.names.now c.args.draft.now c.requires.stands c.requires.order c.loop-name.name-index (noted c.loop-name.creations c.args.draft.now) c.name-item.result (omega arith) c.name-item.is c.loop-name.invariant.along;
}

pub loop-name-preserved : goal.loop-name-preserved
loop-name-preserved c = record {
  along = along_more CreateLinks c.args.names.now c.args.draft.now c.requires.stands c.requires.order c.loop-name.name-index (noted c.loop-name.creations c.args.draft.now) (noted c.create_next.new.creations c.args.draft.now) c.name-item.result (omega arith) c.name-item.is c.loop-name.invariant.along c.in_ok-create_next.ensures.served;
  holds = c.in_ok-create_next.ensures.holds;
}

pub settle-requires : goal.settle-requires
settle-requires c = c.loop-name.invariant.holds

pub returns : goal.returns
returns c =
    let run = along_all CreateLinks c.args.names.now c.args.draft.now c.requires.stands c.requires.order c.loop-name.name-index (noted c.loop-name.creations c.args.draft.now) c.loop-name-test.false c.loop-name.invariant.along in
    on_ok_weaker c.settle.result (λ is. subst (HasRun CreateLinks c.args.names.now c.args.draft.now) (sym is) run) c.settle.ensures
