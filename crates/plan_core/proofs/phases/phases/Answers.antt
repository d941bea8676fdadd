use Rattle.std.proofs.Common.{◌*◌, [], refl, sym, ap, subst}
use Rattle.plan_model.specs.Plans.{name_count, most_calls}
use Rattle.link_planner.specs.Drafts.{DraftData, Advances, draft_of}
use Rattle.plan_core.proofs.Linking.{ready_part, whole_count, finished}
use Rattle.plan_core.proofs.phases.phases.Goals as goal

pub take_off-requires : goal.take_off-requires
take_off-requires c = rw c.in_ok-draft.ensures refl

pub put_on-requires : goal.put_on-requires
put_on-requires c = ready_part (12 * name_count c.take_off.new.draft.start c.take_off.new.draft.target) c.take_off.new.draft c.link_phases.new.draft c.in_ok-link_phases.ensures.advances c.in_ok-take_off.ensures.ready c.in_ok-link_phases.ensures.reached

pub returns : goal.returns
returns c =
    let advances : Advances (most_calls c.args.now_net.now c.args.to_net.now) (draft_of c.args.now_net.now c.args.to_net.now c.args.now_net.now []) c.put_on.new.draft =
    subst (λ d. Advances (most_calls d.start d.target) d c.put_on.new.draft) c.in_ok-draft.ensures (whole_count c.in_ok-draft.draft c.take_off.new.draft c.link_phases.new.draft c.put_on.new.draft c.in_ok-take_off.ensures.advances c.in_ok-link_phases.ensures.advances c.in_ok-put_on.ensures.advances) in
    finished c.plan_laws.ensures.run c.plan_laws.ensures.gentle c.args.now_net.now c.args.to_net.now c.put_on.new.draft c.finish-calls.result.0.items c.requires.differ advances c.laws.ensures c.in_ok-put_on.ensures.done (sym (ap (λ (d : DraftData). d.calls) c.finish-calls.ensures))
