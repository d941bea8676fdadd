use Rattle.std.specs.Prelude.{Ok, Err}
use Rattle.top_model.specs.Said.{said_applied}
use Rattle.top_model.specs.Runs.{run_of}
use Rattle.top_model.specs.Answered.{GoesOn}
use Rattle.top_model.proofs.lemmas.Taken.{takes_only}
use Rattle.engine_commands.proofs.PolicyApplies.{answered, told_applied, told_fault_as}
use Rattle.command_laws.proofs.lemmas.PolicySeen.{wanted_later}
use Rattle.command_laws.proofs.lemmas.Telling.{says_as}
use Rattle.engine_commands.proofs.policy_apply.apply_noted.Goals as goal

pub returns-in-Ok : goal.returns-in-Ok
returns-in-Ok g c = λ start middle p wants words in_script src src_after asked.
    let r = run_of g.H.Host g.S.Source g.W.Sink words in_script c.args.now start c.apply.new.host src src_after c.args.out.now c.tell_done.new.out c.args.err.now c.tell_done.new.err c.tell_done.result in
    let e = c.in-Ok.ensures in
    let goes_on : GoesOn r = record { host = wanted_later g.H.Host.tells g.H.Host.honest c.args.now c.args.done (g.H.Host.told start) (g.H.Host.told middle) (g.H.Host.told c.args.host.now) (g.H.Host.told c.apply.new.host) p c.args.doc.now wants e.later; source = asked.later; out = c.tell_done.ensures.out; err = c.tell_done.ensures.err; inputs = asked.same; takes = takes_only r _ asked.takes; lawful = g.met.H.Host.lawful start; tells = g.met.H.Host.honest_tells } in
    let mid = g.H.Host.told c.args.host.now in
    answered r p c.args.opts.now c.args.doc.now c.args.done (g.H.Host.told middle) mid goes_on wants (Ok c.in-Ok.applied) e.says e.counts e.unbegun e.tries e.twice e.dumps e.backs e.exact e.answer e.exit e.reads e.kept e.seen e.calm e.damaged asked.inputs asked.may_read asked.is
    (told_applied r p c.args.opts.now c.args.doc.now c.args.done (g.H.Host.told middle) mid goes_on wants (said_applied c.in-Ok.applied) c.as_bytes.result.now c.args.notes.now
    (says_as (said_applied c.in-Ok.applied) c.as_bytes.result.now c.applied_line.result c.as_bytes.ensures c.applied_line.ensures) c.requires.notes c.tell_done.ensures.told)

pub returns-in-Err : goal.returns-in-Err
returns-in-Err g c = λ start middle p wants words in_script src src_after asked.
    let r = run_of g.H.Host g.S.Source g.W.Sink words in_script c.args.now start c.apply.new.host src src_after c.args.out.now c.tell_fault.new.out c.args.err.now c.tell_fault.new.err c.tell_fault.result in
    let e = c.in-Err.ensures in
    let goes_on : GoesOn r = record { host = wanted_later g.H.Host.tells g.H.Host.honest c.args.now c.args.done (g.H.Host.told start) (g.H.Host.told middle) (g.H.Host.told c.args.host.now) (g.H.Host.told c.apply.new.host) p c.args.doc.now wants e.later; source = asked.later; out = c.tell_fault.ensures.out; err = c.tell_fault.ensures.err; inputs = asked.same; takes = takes_only r _ asked.takes; lawful = g.met.H.Host.lawful start; tells = g.met.H.Host.honest_tells } in
    let mid = g.H.Host.told c.args.host.now in
    answered r p c.args.opts.now c.args.doc.now c.args.done (g.H.Host.told middle) mid goes_on wants (Err c.in-Err.fault) e.says e.counts e.unbegun e.tries e.twice e.dumps e.backs e.exact e.answer e.exit e.reads e.kept e.seen e.calm e.damaged asked.inputs asked.may_read asked.is
    (told_fault_as r p c.args.opts.now c.args.doc.now c.args.done (g.H.Host.told middle) mid goes_on wants c.in-Err.fault c.told_side.result c.args.notes.now c.told_side.ensures c.requires.notes c.tell_fault.ensures.told)
