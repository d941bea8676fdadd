use Rattle.std.proofs.Common.{true, inl, ap, refl}
use Rattle.std.proofs.lemmas.Result.{IfErr-weaker, on_ok_weaker}
use Rattle.merge_model.specs.MergedNet.{merge}
use Rattle.engine_model.specs.Machine.{asked}
use Rattle.engine_model.specs.declared.ApplyOpts.{ApplyOpts}
use Rattle.scenario_model.specs.Asking.{options}
use Rattle.scenario.proofs.Says.{step_says_from, past_on}
use Rattle.scenario_model.specs.Saying.{past_of}
use Rattle.scenario.proofs.Answers.{step_answers_from, waits, at_trial}
use Rattle.scenario.proofs.changing.try_out.Goals as goal

pub returns-in-Ok-clause-says : goal.returns-in-Ok-clause-says
returns-in-Ok-clause-says g c = λ second.
    IfErr-weaker c.take_back.result _ _ (step_says_from g.H.Host.tells c.args.doc.now second _ _ c.in-Ok.ensures.follows (g.H.Host.told c.take_back.new.host)) (c.take_back.ensures.says c.args.doc.now second)

pub returns-in-Ok-clause-answer : goal.returns-in-Ok-clause-answer
returns-in-Ok-clause-answer g c = λ h from at.
    let to = c.in-Ok.ensures.done h from at in
    IfErr-weaker c.take_back.result _ _ (step_answers_from (merge from c.args.doc.now) _ _ c.in-Ok.ensures.later (g.H.Host.told c.take_back.new.host))
    (c.take_back.ensures.answer h (waits c.args.doc.now (options true) 0 from) from to.0 refl (at_trial c.args.doc.now c.options-opts.result 0 from to.0 (g.H.Host.told c.change.new.host) c.options-opts.ensures to.2) (merge from c.args.doc.now))

pub returns-in-Ok-clause-done : goal.returns-in-Ok-clause-done
returns-in-Ok-clause-done g c = λ h from at.
    let to = c.in-Ok.ensures.done h from at in
    c.take_back.ensures.done h (waits c.args.doc.now (options true) 0 from) from to.0 refl (at_trial c.args.doc.now c.options-opts.result 0 from to.0 (g.H.Host.told c.change.new.host) c.options-opts.ensures to.2)

pub returns-in-Err-clause-says : goal.returns-in-Err-clause-says
returns-in-Err-clause-says g c = λ second. c.in-Err.ensures.says c.args.doc.now second (inl (ap (λ (o : ApplyOpts). asked c.args.doc.now o 0) c.options-opts.ensures))

pub returns-in-Err-clause-answer : goal.returns-in-Err-clause-answer
returns-in-Err-clause-answer g c = λ h from at. c.in-Err.ensures.answer h from at

pub returns-in-Ok-clause-follows : goal.returns-in-Ok-clause-follows
returns-in-Ok-clause-follows g c =
    on_ok_weaker c.take_back.result
    (λ rest. past_on g.H.Host.tells (past_of (g.H.Host.told c.args.host.now)) (past_of (g.H.Host.told c.change.new.host)) (past_of (g.H.Host.told c.take_back.new.host)) c.in-Ok.ensures.follows rest) c.take_back.ensures.follows
