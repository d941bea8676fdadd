use Rattle.scenario.proofs.Says.{run_says_from}
use Rattle.scenario.proofs.Answers.{run_answers_from, first_refuses}
use Rattle.scenario.proofs.running.try_first.Goals as goal

pub returns-in-Ok-clause-says : goal.returns-in-Ok-clause-says
returns-in-Ok-clause-says g c = λ one.
    run_says_from g.H.Host.tells c.args.first.now c.args.second.now _ _ c.in-Ok.ensures.follows (g.H.Host.told c.apply_first.new.host) c.apply_first.result (c.apply_first.ensures.says one)

pub returns-in-Ok-clause-answer : goal.returns-in-Ok-clause-answer
returns-in-Ok-clause-answer g c = λ h from middle one at.
    run_answers_from from c.args.first.now c.args.second.now _ _ c.in-Ok.ensures.later (g.H.Host.told c.apply_first.new.host) c.apply_first.result (c.apply_first.ensures.answer h from middle one (c.in-Ok.ensures.done h from at))

pub returns-in-Err-clause-says : goal.returns-in-Err-clause-says
returns-in-Err-clause-says g c = λ one. c.in-Err.ensures.says c.args.second.now

pub returns-in-Err-clause-answer : goal.returns-in-Err-clause-answer
returns-in-Err-clause-answer g c = λ h from middle one at.
    first_refuses from c.args.first.now c.args.second.now (g.H.Host.told c.args.host.now).faults (g.H.Host.told c.try_out.new.host) c.in-Err.fault (c.in-Err.ensures.answer h from at)
