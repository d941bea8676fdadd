use Rattle.std.specs.Prelude.{Err}
use Rattle.scenario_model.specs.Asking.{first_net}
use Rattle.scenario.proofs.Says.{run_says_from, work_says, unmade_says}
use Rattle.scenario.proofs.Answers.{run_answers_from, work_answers, unmade_answers, made_at, calm}
use Rattle.scenario.proofs.whole.work.Goals as goal

pub returns-in-Ok-clause-says : goal.returns-in-Ok-clause-says
returns-in-Ok-clause-says g c =
    let old = g.H.Host.told c.args.host.now in
    let new = g.H.Host.told c.run.new.host in
    work_says g.H.Host.tells c.args.first.now c.args.second.now old new c.run.result
    (run_says_from g.H.Host.tells c.args.first.now c.args.second.now _ _ c.in-Ok.ensures.follows new c.run.result c.run.ensures.says)

pub returns-in-Ok-clause-answer : goal.returns-in-Ok-clause-answer
returns-in-Ok-clause-answer g c = λ h.
    let old = g.H.Host.told c.args.host.now in
    let new = g.H.Host.told c.run.new.host in
    let first = first_net c.args.hardware.now.items in
    let at = made_at first old.state (g.H.Host.told c.make_first.new.host) (c.in-Ok.ensures.made (g.met.H.Host.honest_tells h)) in
    work_answers c.args.hardware.now.items c.args.first.now c.args.second.now old new c.run.result
    (run_answers_from first c.args.first.now c.args.second.now _ _ c.in-Ok.ensures.later new c.run.result (c.run.ensures.answer h first at))

pub returns-in-Ok-clause-calm : goal.returns-in-Ok-clause-calm
returns-in-Ok-clause-calm g c = λ h none quiet.
    calm c.args.hardware.now.items c.args.first.now c.args.second.now (g.H.Host.told c.args.host.now) (g.H.Host.told c.run.new.host) none quiet c.run.result (returns-in-Ok-clause-answer g c h)

pub returns-in-Err-clause-says : goal.returns-in-Err-clause-says
returns-in-Err-clause-says g c =
    unmade_says g.H.Host.tells c.args.first.now c.args.second.now (g.H.Host.told c.args.host.now) (g.H.Host.told c.make_first.new.host) c.in-Err.fault c.in-Err.ensures.says

pub returns-in-Err-clause-answer : goal.returns-in-Err-clause-answer
returns-in-Err-clause-answer g c = λ h.
    unmade_answers c.args.hardware.now.items c.args.first.now c.args.second.now (g.H.Host.told c.args.host.now) (g.H.Host.told c.make_first.new.host) g.H.Host.tells (g.met.H.Host.honest_tells h) c.in-Err.fault c.in-Err.ensures.says

pub returns-in-Err-clause-calm : goal.returns-in-Err-clause-calm
returns-in-Err-clause-calm g c = λ h none quiet.
    calm c.args.hardware.now.items c.args.first.now c.args.second.now (g.H.Host.told c.args.host.now) (g.H.Host.told c.make_first.new.host) none quiet (Err c.in-Err.fault) (returns-in-Err-clause-answer g c h)
