use Rattle.std.proofs.Common.{refl}
use Rattle.std.specs.Prelude.{[], Ok, Err}
use Rattle.top_model.specs.Said.{said_recovered}
use Rattle.top_model.specs.Orders.{recovering}
use Rattle.top_model.specs.Machine.{back_cause}
use Rattle.top_model.proofs.lemmas.Taken.{takes_only}
use Rattle.top_model.specs.Runs.{run_of}
use Rattle.answer_text.proofs.lemmas.Told.{told_done}
use Rattle.command_laws.proofs.lemmas.Recovers.{answered, done_as}
use Rattle.command_laws.proofs.lemmas.Telling.{says_as, refusal_told, back_reads}
use Rattle.engine_commands.proofs.recover.recover_run.Goals as goal

pub returns-in-Ok : goal.returns-in-Ok
returns-in-Ok g c = λ words in_script src src_after asked.
    let r = run_of g.H.Host g.S.Source g.W.Sink words in_script c.args.now c.args.host.now c.recover.new.host src src_after c.args.out.now c.tell_done.new.out c.args.err.now c.tell_done.new.err c.tell_done.result in
    let e = c.in-Ok.ensures in
    answered r asked.inputs asked.may_read asked.is (Ok c.in-Ok.recovered) e.says e.counts e.unmade e.gave (done_as r c.in-Ok.recovered e.nothing e.waiting e.restored e.cleared) e.begun e.idle e.unbegun e.exact e.after e.answer e.exit e.reads e.kept e.set_there e.memory
    (record { host = e.later; source = asked.later; out = c.tell_done.ensures.out; err = c.tell_done.ensures.err; inputs = asked.same; takes = takes_only r _ asked.takes; lawful = g.met.H.Host.lawful c.args.host.now; tells = g.met.H.Host.honest_tells })
    (told_done r (Ok recovering) (λ c t e. e) (said_recovered c.in-Ok.recovered) c.as_bytes.result.now []
    (says_as (said_recovered c.in-Ok.recovered) c.as_bytes.result.now c.recovered_line.result c.as_bytes.ensures c.recovered_line.ensures) refl c.tell_done.ensures.told)

pub returns-in-Err : goal.returns-in-Err
returns-in-Err g c = λ words in_script src src_after asked.
    let r = run_of g.H.Host g.S.Source g.W.Sink words in_script c.args.now c.args.host.now c.recover.new.host src src_after c.args.out.now c.tell_refused.new.out c.args.err.now c.tell_refused.new.err c.tell_refused.result in
    let e = c.in-Err.ensures in
    answered r asked.inputs asked.may_read asked.is (Err c.in-Err.fault) e.says e.counts e.unmade e.gave (λ t. tt) e.begun e.idle e.unbegun e.exact e.after e.answer e.exit e.reads e.kept e.set_there e.memory
    (record { host = e.later; source = asked.later; out = c.tell_refused.ensures.out; err = c.tell_refused.ensures.err; inputs = asked.same; takes = takes_only r _ asked.takes; lawful = g.met.H.Host.lawful c.args.host.now; tells = g.met.H.Host.honest_tells })
    (refusal_told r (Ok recovering) (λ c t e. e) c.back_cause.result (back_cause c.in-Err.fault) [] c.back_cause.ensures refl (back_reads c.in-Err.fault) c.tell_refused.ensures.told)
