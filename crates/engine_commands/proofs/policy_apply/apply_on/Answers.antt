use Rattle.policy_lang.specs.Held.{data_of}
use Rattle.top_model.specs.Runs.{run_of}
use Rattle.top_model.specs.Answered.{GoesOn}
use Rattle.top_model.proofs.lemmas.Taken.{takes_only}
use Rattle.command_laws.proofs.lemmas.PolicySeen.{seen_later}
use Rattle.command_laws.proofs.lemmas.PolicyRefused.{no_document}
use Rattle.engine_commands.proofs.policy_apply.apply_on.Goals as goal

pub returns-in-Ok : goal.returns-in-Ok
returns-in-Ok g c = λ start middle seen. c.apply_doc.ensures start middle (data_of c.args.policy.now) (record { net = c.args.net.now; seen = seen; reads = c.in-Ok.ensures.read })

pub returns-in-Err : goal.returns-in-Err
returns-in-Err g c = λ start middle seen words in_script src src_after asked.
    let r = run_of g.H.Host g.S.Source g.W.Sink words in_script c.args.now start c.args.host.now src src_after c.args.out.now c.tell_refused.new.out c.args.err.now c.tell_refused.new.err c.tell_refused.result in
    let goes_on : GoesOn r = record { host = seen_later g.H.Host.tells g.H.Host.honest c.args.now c.args.done (g.H.Host.told start) (g.H.Host.told middle) (g.H.Host.told c.args.host.now) c.args.net.now seen; source = asked.later; out = c.tell_refused.ensures.out; err = c.tell_refused.ensures.err; inputs = asked.same; takes = takes_only r _ asked.takes; lawful = g.met.H.Host.lawful start; tells = g.met.H.Host.honest_tells } in
    no_document r (data_of c.args.policy.now) c.args.opts.now asked.inputs asked.may_read asked.is c.args.done (g.H.Host.told middle) c.args.net.now seen goes_on c.in-Err.cause c.in-Err.ensures.read c.tell_refused.ensures.told
