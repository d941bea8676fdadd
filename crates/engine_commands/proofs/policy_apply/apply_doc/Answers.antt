use Rattle.std.proofs.Common.{[]}
use Rattle.std.specs.Prelude.{Ok}
use Rattle.top_model.specs.Orders.{applying_policy}
use Rattle.top_model.specs.Runs.{run_of}
use Rattle.top_model.specs.Grounds.{Grounds, TakesFirst}
use Rattle.top_model.specs.Answered.{GoesOn}
use Rattle.top_model.specs.declared.report.Cause.TheVariants.{OutOfMemory}
use Rattle.top_model.proofs.lemmas.Taken.{takes_only}
use Rattle.answer_text.proofs.lemmas.Told.{starved_line, told_refused}
use Rattle.command_laws.proofs.lemmas.EndsUnchanged.{ran_out}
use Rattle.command_laws.proofs.lemmas.PolicySeen.{seen_later}
use Rattle.engine_commands.proofs.policy_apply.apply_doc.Goals as goal

pub returns-in-Err : goal.returns-in-Err
returns-in-Err g c = λ start middle p wants words in_script src src_after asked.
    let r = run_of g.H.Host g.S.Source g.W.Sink words in_script c.args.now start c.args.host.now src src_after c.args.out.now c.tell_refused.new.out c.args.err.now c.tell_refused.new.err c.tell_refused.result in
    let seen = wants.seen in
    let goes_on : GoesOn r = record { host = seen_later g.H.Host.tells g.H.Host.honest c.args.now c.args.done (g.H.Host.told start) (g.H.Host.told middle) (g.H.Host.told c.args.host.now) wants.net seen; source = asked.later; out = c.tell_refused.ensures.out; err = c.tell_refused.ensures.err; inputs = asked.same; takes = takes_only r _ asked.takes; lawful = g.met.H.Host.lawful start; tells = g.met.H.Host.honest_tells } in
    ran_out r p c.args.opts.now asked.inputs asked.may_read asked.is c.args.done seen.begun.clear (g.H.Host.told middle) seen.begun.recovers wants.net seen.looks goes_on
    (told_refused r (Ok (applying_policy p c.args.opts.now)) OutOfMemory [] (starved_line (TakesFirst r) (Grounds r (Ok (applying_policy p c.args.opts.now))) (Ok (applying_policy p c.args.opts.now))) c.tell_refused.ensures.told)
