use Rattle.std.specs.Prelude.{Err}
use Rattle.policy_lang.specs.Held.{data_of}
use Rattle.top_model.proofs.lemmas.Taken.{takes_only}
use Rattle.top_model.specs.Runs.{run_of}
use Rattle.command_laws.proofs.lemmas.Evaluates.{plan_policy_answered, looked_at, looked_none, told_found, told_none}
use Rattle.plain_commands.proofs.policy.plan_policy_run.Goals as goal

pub returns-in-Ok : goal.returns-in-Ok
returns-in-Ok g c = λ now words in_script src src_after asked.
    let r = run_of g.H.Host g.S.Source g.W.Sink words in_script now c.args.host.now c.look.new.host src src_after c.args.out.now c.plan_on.new.out c.args.err.now c.plan_on.new.err c.plan_on.result in
    let t = c.plan_on.ensures.told in
    plan_policy_answered r (data_of c.args.policy.now) c.args.batch c.in-Ok.ensures.looks t.answer (looked_at r (data_of c.args.policy.now) c.args.batch c.in-Ok.net t.answer c.in-Ok.ensures.finds t.answers) (record {
      inputs = asked.inputs;
      may_read = asked.may_read;
      is = asked.is;
      told = told_found r (data_of c.args.policy.now) c.args.batch c.in-Ok.net c.in-Ok.ensures.finds t;
      goes_on = record { host = c.in-Ok.ensures.looks.later; source = asked.later; out = c.plan_on.ensures.out; err = c.plan_on.ensures.err; inputs = asked.same; takes = takes_only r _ asked.takes; lawful = g.met.H.Host.lawful c.args.host.now; tells = g.met.H.Host.honest_tells };
    })

pub returns-in-Err : goal.returns-in-Err
returns-in-Err g c = λ now words in_script src src_after asked.
    let r = run_of g.H.Host g.S.Source g.W.Sink words in_script now c.args.host.now c.look.new.host src src_after c.args.out.now c.tell_refused.new.out c.args.err.now c.tell_refused.new.err c.tell_refused.result in
    plan_policy_answered r (data_of c.args.policy.now) c.args.batch c.in-Err.ensures.looks (Err c.in-Err.cause) (looked_none r (data_of c.args.policy.now) c.args.batch c.in-Err.cause c.in-Err.ensures.finds) (record {
      inputs = asked.inputs;
      may_read = asked.may_read;
      is = asked.is;
      told = told_none r (data_of c.args.policy.now) c.args.batch c.in-Err.cause c.in-Err.ensures.finds c.tell_refused.ensures.told;
      goes_on = record { host = c.in-Err.ensures.looks.later; source = asked.later; out = c.tell_refused.ensures.out; err = c.tell_refused.ensures.err; inputs = asked.same; takes = takes_only r _ asked.takes; lawful = g.met.H.Host.lawful c.args.host.now; tells = g.met.H.Host.honest_tells };
    })
