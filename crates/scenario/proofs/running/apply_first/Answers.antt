use Rattle.std.proofs.Common.{inl, inr, ap}
use Rattle.engine_model.specs.Machine.{asked}
use Rattle.engine_model.specs.declared.ApplyOpts.{ApplyOpts}
use Rattle.scenario_model.specs.declared.work.TheConstants.{FIRST_AT}
use Rattle.scenario.proofs.Says.{run_says_from}
use Rattle.scenario.proofs.Answers.{run_answers_from, first_refuses, at_change, one_target}
use Rattle.scenario.proofs.running.apply_first.Goals as goal

pub returns-in-Ok-clause-says : goal.returns-in-Ok-clause-says
returns-in-Ok-clause-says g c = λ one.
    run_says_from g.H.Host.tells c.args.first.now c.args.second.now _ _ c.in-Ok.ensures.follows (g.H.Host.told c.plan_second.new.host) c.plan_second.result (c.plan_second.ensures.says c.args.first.now one)

pub returns-in-Ok-clause-answer : goal.returns-in-Ok-clause-answer
returns-in-Ok-clause-answer g c = λ h from middle one at.
    let to = c.in-Ok.ensures.done h from at in
    let there = at_change c.args.first.now c.options-opts.result FIRST_AT from to.0 middle (g.H.Host.told c.change.new.host) c.options-opts.ensures (one_target from c.args.first.now to.0 middle to.1 one.merges) to.2 in
    run_answers_from from c.args.first.now c.args.second.now _ _ c.in-Ok.ensures.later (g.H.Host.told c.plan_second.new.host) c.plan_second.result (c.plan_second.ensures.answer h c.args.first.now from middle one there)

pub returns-in-Err-clause-says : goal.returns-in-Err-clause-says
returns-in-Err-clause-says g c = λ one. c.in-Err.ensures.says c.args.first.now c.args.second.now (inr (inl (ap (λ (o : ApplyOpts). asked c.args.first.now o FIRST_AT) c.options-opts.ensures)))

pub returns-in-Err-clause-answer : goal.returns-in-Err-clause-answer
returns-in-Err-clause-answer g c = λ h from middle one at.
    first_refuses from c.args.first.now c.args.second.now (g.H.Host.told c.args.host.now).faults (g.H.Host.told c.change.new.host) c.in-Err.fault (c.in-Err.ensures.answer h from at)
