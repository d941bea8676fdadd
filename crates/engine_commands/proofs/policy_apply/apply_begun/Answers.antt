use Rattle.std.specs.Prelude.{Ok, Err}
use Rattle.policy_lang.specs.Held.{data_of}
use Rattle.top_model.specs.Orders.{applying_policy}
use Rattle.top_model.specs.Runs.{run_of}
use Rattle.top_model.specs.Grounds.{Grounds, TakesFirst}
use Rattle.top_model.specs.Answered.{GoesOn}
use Rattle.top_model.proofs.lemmas.Taken.{takes_only}
use Rattle.command_laws.specs.Begun.{Looks, look_cause}
use Rattle.command_laws.proofs.lemmas.EndsUnchanged.{failed_look}
use Rattle.command_laws.proofs.lemmas.PolicySeen.{later}
use Rattle.command_laws.proofs.lemmas.PolicyRefused.{told_plain, look_err, taken_first}
use Rattle.engine_commands.proofs.policy_apply.apply_begun.Goals as goal

pub returns-in-Ok : goal.returns-in-Ok
returns-in-Ok g c = λ start begun. c.apply_on.ensures start c.args.host.now (record { begun = begun; looks = record { lawful = g.met.H.Host.lawful c.args.host.now; net = c.in-Ok.ensures.net; damaged = c.in-Ok.ensures.damaged; state = c.in-Ok.ensures.state; stops = c.in-Ok.ensures.stops; fresh = c.in-Ok.ensures.fresh; calls = c.in-Ok.ensures.calls; kernel = c.in-Ok.ensures.kernel; cause = c.in-Ok.ensures.cause } })

pub returns-in-Err : goal.returns-in-Err
returns-in-Err g c = λ start begun words in_script src src_after asked.
    let r = run_of g.H.Host g.S.Source g.W.Sink words in_script c.args.now start c.dump.new.self src src_after c.args.out.now c.tell_refused.new.out c.args.err.now c.tell_refused.new.err c.tell_refused.result in
    let order = applying_policy (data_of c.args.policy.now) c.args.opts.now in
    let looks : Looks g.H.Host.tells g.H.Host.honest (g.H.Host.told c.args.host.now) (g.H.Host.told c.dump.new.self) (Err c.in-Err.fault) = record { lawful = g.met.H.Host.lawful c.args.host.now; net = c.in-Err.ensures.net; damaged = c.in-Err.ensures.damaged; state = c.in-Err.ensures.state; stops = c.in-Err.ensures.stops; fresh = c.in-Err.ensures.fresh; calls = c.in-Err.ensures.calls; kernel = c.in-Err.ensures.kernel; cause = c.in-Err.ensures.cause } in
    let goes_on : GoesOn r = record { host = later (g.H.Host.told start).faults (g.H.Host.told c.args.host.now).faults (g.H.Host.told c.dump.new.self).faults begun.recovers.later looks.cause.later; source = asked.later; out = c.tell_refused.ensures.out; err = c.tell_refused.ensures.err; inputs = asked.same; takes = takes_only r _ asked.takes; lawful = g.met.H.Host.lawful start; tells = g.met.H.Host.honest_tells } in
    failed_look r (data_of c.args.policy.now) c.args.opts.now asked.inputs asked.may_read asked.is c.args.done begun.clear (g.H.Host.told c.args.host.now) begun.recovers c.in-Err.fault looks goes_on
    (told_plain r (Ok order) c.look_cause.result (look_cause c.args.done c.in-Err.fault) c.look_cause.ensures (look_err (TakesFirst r) (Grounds r (Ok order)) (data_of c.args.policy.now) c.args.opts.now c.args.done c.in-Err.fault
    (taken_first g.H.Host.tells g.H.Host.honest c.args.now c.args.done (g.H.Host.told start) (g.H.Host.told c.args.host.now) begun)) c.tell_refused.ensures.told)
