use Rattle.link_planner.proofs.Starting.{phases_few}
use Rattle.link_planner.proofs.plan.link_phases.Goals as goal

pub returns-clause-advances : goal.returns-clause-advances
returns-clause-advances g c = phases_few c.args.draft.now c.take_away.new.draft c.build_up.new.draft c.laws.ensures.target c.in_ok-take_away.ensures.advances c.in_ok-build_up.ensures.advances
