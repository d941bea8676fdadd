use Rattle.std.specs.Prelude.{Ok}
use Rattle.policy_lang.specs.Held.{data_of}
use Rattle.top_model.specs.Orders.{applying_policy}
use Rattle.top_model.specs.Runs.{run_of}
use Rattle.top_model.specs.Grounds.{Grounds, TakesFirst}
use Rattle.top_model.specs.Answered.{GoesOn}
use Rattle.top_model.proofs.lemmas.Taken.{takes_only}
use Rattle.command_laws.proofs.lemmas.EndsEarly.{recovery_cause, failed_recovering}
use Rattle.command_laws.proofs.lemmas.PolicyRefused.{told_plain, recovery_err, never_rolled}
use Rattle.checkpoint_cell.specs.Settled.{standing}
use Rattle.engine_model.specs.Machine.{recover}
use Rattle.engine_commands.proofs.policy_apply.apply_policy_run.Goals as goal

pub returns-in-Ok : goal.returns-in-Ok
returns-in-Ok g c = c.apply_recovered.ensures c.args.host.now (record { says = c.in-Ok.ensures.says; counts = c.in-Ok.ensures.counts; unmade = c.in-Ok.ensures.unmade; answer = c.in-Ok.ensures.answer; exact = c.in-Ok.ensures.exact; exit = c.in-Ok.ensures.exit; reads = c.in-Ok.ensures.reads; kept = c.in-Ok.ensures.kept; set_there = c.in-Ok.ensures.set_there; nothing = c.in-Ok.ensures.nothing; waiting = c.in-Ok.ensures.waiting; restored = c.in-Ok.ensures.restored; cleared = c.in-Ok.ensures.cleared; idle = c.in-Ok.ensures.idle; unbegun = c.in-Ok.ensures.unbegun; after = c.in-Ok.ensures.after; begun = c.in-Ok.ensures.begun; waits = c.in-Ok.ensures.waits; moment = c.in-Ok.ensures.moment; later = c.in-Ok.ensures.later })

pub returns-in-Err : goal.returns-in-Err
returns-in-Err g c = λ words in_script src src_after asked.
    let r = run_of g.H.Host g.S.Source g.W.Sink words in_script c.args.now c.args.host.now c.recover.new.host src src_after c.args.out.now c.tell_refused.new.out c.args.err.now c.tell_refused.new.err c.tell_refused.result in
    let order = applying_policy (data_of c.args.policy.now) c.args.opts.now in
    let goes_on : GoesOn r = record { host = c.in-Err.ensures.later; source = asked.later; out = c.tell_refused.ensures.out; err = c.tell_refused.ensures.err; inputs = asked.same; takes = takes_only r _ asked.takes; lawful = g.met.H.Host.lawful c.args.host.now; tells = g.met.H.Host.honest_tells } in
    failed_recovering r (data_of c.args.policy.now) c.args.opts.now asked.inputs asked.may_read asked.is c.in-Err.fault (record { says = c.in-Err.ensures.says; counts = c.in-Err.ensures.counts; unmade = c.in-Err.ensures.unmade; answer = c.in-Err.ensures.answer; exact = c.in-Err.ensures.exact; exit = c.in-Err.ensures.exit; reads = c.in-Err.ensures.reads; kept = c.in-Err.ensures.kept; set_there = c.in-Err.ensures.set_there; nothing = c.in-Err.ensures.nothing; waiting = c.in-Err.ensures.waiting; restored = c.in-Err.ensures.restored; cleared = c.in-Err.ensures.cleared; idle = c.in-Err.ensures.idle; unbegun = c.in-Err.ensures.unbegun; after = c.in-Err.ensures.after; begun = c.in-Err.ensures.begun; waits = c.in-Err.ensures.waits; moment = c.in-Err.ensures.moment; later = c.in-Err.ensures.later }) goes_on
    (told_plain r (Ok order) c.settling_cause.result (recovery_cause c.in-Err.fault) c.settling_cause.ensures (recovery_err (TakesFirst r) (Grounds r (Ok order)) (data_of c.args.policy.now) c.args.opts.now c.in-Err.fault
    (never_rolled g.H.Host.tells (recover c.args.now (standing (g.H.Host.told c.args.host.now).state)).answer (g.H.Host.told c.args.host.now) (g.H.Host.told c.recover.new.host) c.in-Err.fault c.in-Err.ensures.says)
    (λ other t. c.in-Err.ensures.begun t other)) c.tell_refused.ensures.told)
