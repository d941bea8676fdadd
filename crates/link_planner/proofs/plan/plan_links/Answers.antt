use Rattle.std.proofs.Common.{◌*◌, [], subst}
use Rattle.plan_model.specs.Plans.{name_count}
use Rattle.link_planner.specs.Drafts.{Advances, draft_of}
use Rattle.link_planner.specs.LinkPlans.{ReachesLinks}
use Rattle.link_planner.proofs.Starting.{start_ready, link_planned}
use Rattle.link_planner.proofs.plan.plan_links.Goals as goal

pub link_phases-requires : goal.link_phases-requires
link_phases-requires g c = rw c.in_ok-draft.ensures (start_ready c.args.now_net.now c.args.to_net.now c.requires)

pub returns : goal.returns
returns g c =
    let advances : Advances (12 * name_count c.args.now_net.now c.args.to_net.now) (draft_of c.args.now_net.now c.args.to_net.now c.args.now_net.now []) c.link_phases.new.draft =
    subst (λ d. Advances (12 * name_count d.start d.target) d c.link_phases.new.draft) c.in_ok-draft.ensures c.in_ok-link_phases.ensures.advances in
    let reached : ReachesLinks c.args.now_net.now c.link_phases.new.draft.target c.link_phases.new.draft.net = subst (λ d. ReachesLinks d.net c.link_phases.new.draft.target c.link_phases.new.draft.net) c.in_ok-draft.ensures c.in_ok-link_phases.ensures.reached in
    link_planned c.plan_laws.ensures.run c.plan_laws.ensures.gentle c.args.now_net.now c.args.to_net.now c.link_phases.new.draft c.finish-calls.result.0.items c.finish-calls.result.1 advances c.laws.ensures reached c.finish-calls.ensures
