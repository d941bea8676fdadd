use Rattle.std.proofs.Common.{arith, sym, subst}
use Rattle.std.proofs.lemmas.Result.{on_ok_weaker}
use Rattle.link_planner.specs.declared.phase.Phase.TheVariants.{DeleteLinks}
use Rattle.link_planner.specs.Drafts.{Holds}
use Rattle.link_planner.specs.Phases.{HasRun, IsAlong}
use Rattle.link_planner.specs.Deletions.{noted}
use Rattle.link_planner.proofs.Noted.{noted_none}
use Rattle.link_planner.proofs.Phasing.{along_none, along_due, along_more, along_all}
use Rattle.link_planner.proofs.deletions.delete_links.Goals as goal

pub loop-name-init : goal.loop-name-init
loop-name-init g c =
    let same = sym (noted_none c.none-deletions.result c.args.draft.now c.none-deletions.ensures) in
    record {
      along = subst (IsAlong DeleteLinks c.args.names.now 0 c.args.draft.now) same (along_none DeleteLinks c.args.names.now c.args.draft.now c.requires.stands c.requires.order);
      holds = subst Holds same c.laws.ensures;
    }

pub delete_next-requires : goal.delete_next-requires
delete_next-requires g c = record {
  holds = c.loop-name.invariant.holds;
  due = along_due DeleteLinks c.args.names.now c.args.draft.now c.requires.stands c.requires.order c.loop-name.name-index (noted c.loop-name.deletions c.loop-name.draft) c.name-item.result (omega arith) c.name-item.is c.loop-name.invariant.along;
}

pub loop-name-preserved : goal.loop-name-preserved
loop-name-preserved g c = record {
  along = along_more DeleteLinks c.args.names.now c.args.draft.now c.requires.stands c.requires.order c.loop-name.name-index (noted c.loop-name.deletions c.loop-name.draft) (noted c.delete_next.new.deletions c.delete_next.new.draft) c.name-item.result (omega arith) c.name-item.is c.loop-name.invariant.along c.in_ok-delete_next.ensures.served;
  holds = c.in_ok-delete_next.ensures.holds;
}

pub settle-requires : goal.settle-requires
settle-requires g c = c.loop-name.invariant.holds

pub returns : goal.returns
returns g c =
    let run = along_all DeleteLinks c.args.names.now c.args.draft.now c.requires.stands c.requires.order c.loop-name.name-index (noted c.loop-name.deletions c.loop-name.draft) c.loop-name-test.false c.loop-name.invariant.along in
    on_ok_weaker c.settle.result (λ is. subst (HasRun DeleteLinks c.args.names.now c.args.draft.now) (sym is) run) c.settle.ensures.settled
