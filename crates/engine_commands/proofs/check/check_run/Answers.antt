use Rattle.std.proofs.Common.{refl}
use Rattle.std.specs.Prelude.{[], Ok, Err}
use Rattle.top_model.specs.Said.{checked}
use Rattle.top_model.specs.Orders.{checking}
use Rattle.top_model.specs.Machine.{check_cause}
use Rattle.top_model.proofs.lemmas.Taken.{takes_only}
use Rattle.top_model.specs.Runs.{run_of}
use Rattle.answer_text.proofs.lemmas.Told.{told_done}
use Rattle.command_laws.proofs.lemmas.Checks.{answered, check_reads}
use Rattle.command_laws.proofs.lemmas.Telling.{says_as, refusal_told}
use Rattle.engine_commands.proofs.check.check_run.Goals as goal

pub returns-in-Ok : goal.returns-in-Ok
returns-in-Ok g c = λ now words in_script src src_after asked.
    let r = run_of g.H.Host g.S.Source g.W.Sink words in_script now c.args.host.now c.checked.new.host src src_after c.args.out.now c.tell_done.new.out c.args.err.now c.tell_done.new.err c.tell_done.result in
    let e = c.in-Ok.ensures in
    answered r e.looks asked.inputs asked.may_read asked.is (Ok c.in-Ok.found) e.says e.answer e.exit e.sound
    (record { host = e.looks.later; source = asked.later; out = c.tell_done.ensures.out; err = c.tell_done.ensures.err; inputs = asked.same; takes = takes_only r _ asked.takes; lawful = g.met.H.Host.lawful c.args.host.now; tells = g.met.H.Host.honest_tells })
    (told_done r (Ok checking) (λ c t e. e) (checked c.in-Ok.found) c.as_bytes.result.now [] (says_as (checked c.in-Ok.found) c.as_bytes.result.now c.checked_line.result c.as_bytes.ensures c.checked_line.ensures) refl c.tell_done.ensures.told)

pub returns-in-Err : goal.returns-in-Err
returns-in-Err g c = λ now words in_script src src_after asked.
    let r = run_of g.H.Host g.S.Source g.W.Sink words in_script now c.args.host.now c.checked.new.host src src_after c.args.out.now c.tell_refused.new.out c.args.err.now c.tell_refused.new.err c.tell_refused.result in
    let e = c.in-Err.ensures in
    answered r e.looks asked.inputs asked.may_read asked.is (Err c.in-Err.fault) e.says e.answer e.exit e.sound
    (record { host = e.looks.later; source = asked.later; out = c.tell_refused.ensures.out; err = c.tell_refused.ensures.err; inputs = asked.same; takes = takes_only r _ asked.takes; lawful = g.met.H.Host.lawful c.args.host.now; tells = g.met.H.Host.honest_tells })
    (refusal_told r (Ok checking) (λ c t e. e) c.check_cause.result (check_cause c.in-Err.fault) [] c.check_cause.ensures refl (check_reads c.in-Err.fault) c.tell_refused.ensures.told)
