use Rattle.std.specs.Prelude.{Ok, Err}
use Rattle.top_model.specs.Said.{said_applied}
use Rattle.top_model.specs.Orders.{applying}
use Rattle.top_model.specs.Machine.{apply_cause}
use Rattle.top_model.proofs.lemmas.Taken.{takes_only}
use Rattle.top_model.specs.Runs.{run_of}
use Rattle.answer_text.proofs.lemmas.Told.{told_done}
use Rattle.command_laws.proofs.lemmas.Applies.{answered}
use Rattle.command_laws.proofs.lemmas.Telling.{says_as, refusal_told, apply_reads}
use Rattle.engine_commands.proofs.apply.apply_noted.Goals as goal

pub returns-in-Ok : goal.returns-in-Ok
returns-in-Ok g c = λ words in_script src src_after asked.
    let r = run_of g.H.Host g.S.Source g.W.Sink words in_script c.args.now c.args.host.now c.apply.new.host src src_after c.args.out.now c.tell_done.new.out c.args.err.now c.tell_done.new.err c.tell_done.result in
    let e = c.in-Ok.ensures in
    answered r c.args.doc.now c.args.opts.now asked.inputs asked.may_read asked.is (Ok c.in-Ok.applied) e.says e.counts e.unbegun e.waits e.intact e.tries e.twice e.dumps e.backs e.exact e.answer e.exit e.reads e.kept e.seen e.undisturbed
    (record { host = e.later; source = asked.later; out = c.tell_done.ensures.out; err = c.tell_done.ensures.err; inputs = asked.same; takes = takes_only r _ asked.takes; lawful = g.met.H.Host.lawful c.args.host.now; tells = g.met.H.Host.honest_tells })
    (told_done r (Ok (applying c.args.doc.now c.args.opts.now)) (λ c t e. e) (said_applied c.in-Ok.applied) c.as_bytes.result.now c.args.notes.now
    (says_as (said_applied c.in-Ok.applied) c.as_bytes.result.now c.applied_line.result c.as_bytes.ensures c.applied_line.ensures) c.requires.notes c.tell_done.ensures.told)

pub returns-in-Err : goal.returns-in-Err
returns-in-Err g c = λ words in_script src src_after asked.
    let r = run_of g.H.Host g.S.Source g.W.Sink words in_script c.args.now c.args.host.now c.apply.new.host src src_after c.args.out.now c.tell_refused.new.out c.args.err.now c.tell_refused.new.err c.tell_refused.result in
    let e = c.in-Err.ensures in
    answered r c.args.doc.now c.args.opts.now asked.inputs asked.may_read asked.is (Err c.in-Err.fault) e.says e.counts e.unbegun e.waits e.intact e.tries e.twice e.dumps e.backs e.exact e.answer e.exit e.reads e.kept e.seen e.undisturbed
    (record { host = e.later; source = asked.later; out = c.tell_refused.ensures.out; err = c.tell_refused.ensures.err; inputs = asked.same; takes = takes_only r _ asked.takes; lawful = g.met.H.Host.lawful c.args.host.now; tells = g.met.H.Host.honest_tells })
    (refusal_told r (Ok (applying c.args.doc.now c.args.opts.now)) (λ c t e. e) c.apply_cause.result (apply_cause c.in-Err.fault) c.args.notes.now c.apply_cause.ensures c.requires.notes (apply_reads c.in-Err.fault) c.tell_refused.ensures.told)
