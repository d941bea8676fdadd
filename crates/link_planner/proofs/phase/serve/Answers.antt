use Rattle.std.proofs.Common.{sym, subst}
use Rattle.std.proofs.lemmas.Result.{on_ok_weaker}
use Rattle.link_planner.specs.Phases.{IsServed}
use Rattle.link_planner.proofs.Phasing.{serves_safe, served}
use Rattle.link_planner.proofs.phase.serve.Goals as goal

pub add_some-requires : goal.add_some-requires
add_some-requires g c = serves_safe c.args.phase c.args.draft.now c.args.name.now c.call_for-call.result c.call_for-call.ensures

pub returns : goal.returns
returns g c =
    let done = served c.args.phase c.args.draft.now c.args.name.now c.call_for-call.result c.requires c.call_for-call.ensures in
    on_ok_weaker c.add_some.result (λ is. subst (IsServed c.args.phase c.args.name.now c.args.draft.now) (sym is) done) c.add_some.ensures
