use Rattle.std.proofs.Common.{refl, subst, []}
use Rattle.std.specs.Prelude.{Ok}
use Rattle.engine_model.specs.declared.Recovered.{Recovered}
use Rattle.policy_lang.specs.Held.{data_of}
use Rattle.top_model.specs.Orders.{applying_policy}
use Rattle.top_model.specs.Runs.{run_of}
use Rattle.top_model.specs.Answered.{GoesOn}
use Rattle.top_model.specs.declared.report.Cause.TheVariants.{Pending}
use Rattle.top_model.proofs.lemmas.Taken.{takes_only}
use Rattle.answer_text.proofs.lemmas.Told.{told_refused}
use Rattle.command_laws.specs.Begun.{Recovers}
use Rattle.command_laws.proofs.lemmas.EndsEarly.{waits_still}
use Rattle.engine_commands.proofs.policy_apply.apply_recovered.Goals as goal

pub returns-in-Nothing : goal.returns-in-Nothing
returns-in-Nothing g c = λ start first. c.apply_begun.ensures start (record { clear = tt; recovers = subst (λ (d : Recovered). Recovers g.H.Host.tells g.H.Host.honest c.args.now (g.H.Host.told start) (g.H.Host.told c.args.host.now) (Ok d)) c.in-Nothing.is first })

pub returns-in-Restored : goal.returns-in-Restored
returns-in-Restored g c = λ start first. c.apply_begun-in-Restored.ensures start (record { clear = tt; recovers = subst (λ (d : Recovered). Recovers g.H.Host.tells g.H.Host.honest c.args.now (g.H.Host.told start) (g.H.Host.told c.args.host.now) (Ok d)) c.in-Restored.is first })

pub returns-in-Waiting : goal.returns-in-Waiting
returns-in-Waiting g c = λ start first words in_script src src_after asked.
    let r = run_of g.H.Host g.S.Source g.W.Sink words in_script c.args.now start c.args.host.now src src_after c.args.out.now c.tell_refused.new.out c.args.err.now c.tell_refused.new.err c.tell_refused.result in
    let goes_on : GoesOn r = record { host = first.later; source = asked.later; out = c.tell_refused.ensures.out; err = c.tell_refused.ensures.err; inputs = asked.same; takes = takes_only r _ asked.takes; lawful = g.met.H.Host.lawful start; tells = g.met.H.Host.honest_tells } in
    waits_still r (data_of c.args.policy.now) c.args.opts.now asked.inputs asked.may_read asked.is c.in-Waiting.deadline (subst (λ (d : Recovered). Recovers g.H.Host.tells g.H.Host.honest c.args.now (g.H.Host.told start) (g.H.Host.told c.args.host.now) (Ok d)) c.in-Waiting.is first) goes_on
    (told_refused r (Ok (applying_policy (data_of c.args.policy.now) c.args.opts.now)) (Pending c.in-Waiting.deadline) [] refl c.tell_refused.ensures.told)
