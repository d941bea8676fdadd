use Rattle.std.proofs.Common.{inr, ap}
use Rattle.engine_model.specs.Machine.{asked}
use Rattle.engine_model.specs.declared.ApplyOpts.{ApplyOpts}
use Rattle.scenario_model.specs.declared.work.TheConstants.{SECOND_AT}
use Rattle.scenario.proofs.Says.{run_says_from}
use Rattle.scenario.proofs.Answers.{run_answers_from, second_refuses, at_change, one_target}
use Rattle.scenario.proofs.running.apply_second.Goals as goal

pub returns-in-Ok-clause-says : goal.returns-in-Ok-clause-says
returns-in-Ok-clause-says g c = λ first one two.
    run_says_from g.H.Host.tells first c.args.second.now _ _ c.in-Ok.ensures.follows (g.H.Host.told c.summarize.new.host) c.summarize.result (c.summarize.ensures.says first c.args.second.now one two)

pub returns-in-Ok-clause-answer : goal.returns-in-Ok-clause-answer
returns-in-Ok-clause-answer g c = λ h first from middle last one two at.
    let to = c.in-Ok.ensures.done h middle at in
    let there = at_change c.args.second.now c.options-opts.result SECOND_AT middle to.0 last (g.H.Host.told c.change.new.host) c.options-opts.ensures (one_target middle c.args.second.now to.0 last to.1 two.merges) to.2 in
    run_answers_from from first c.args.second.now _ _ c.in-Ok.ensures.later (g.H.Host.told c.summarize.new.host) c.summarize.result (c.summarize.ensures.answer h first c.args.second.now from middle last one two there)

pub returns-in-Err-clause-says : goal.returns-in-Err-clause-says
returns-in-Err-clause-says g c = λ first one two. c.in-Err.ensures.says first c.args.second.now (inr (inr (ap (λ (o : ApplyOpts). asked c.args.second.now o SECOND_AT) c.options-opts.ensures)))

pub returns-in-Err-clause-answer : goal.returns-in-Err-clause-answer
returns-in-Err-clause-answer g c = λ h first from middle last one two at.
    second_refuses from middle first c.args.second.now (g.H.Host.told c.args.host.now).faults (g.H.Host.told c.change.new.host) c.in-Err.fault one.merges (c.in-Err.ensures.answer h middle at)
