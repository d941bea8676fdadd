use Rattle.std.proofs.Common.{refl}
use Rattle.std.specs.Prelude.{[], Ok, Err}
use Rattle.engine_model.specs.Failing.{IsUnbegun}
use Rattle.engine_model.specs.declared.CommitFault.{CommitFault}
use Rattle.engine_model.specs.declared.CommitFault.TheVariants.{NoCheckpoint, Unfinished, Expired, HostFault, InDoubt}
use Rattle.engine_core.specs.Committing.{IsRefusal}
use Rattle.command_words.specs.Words.{command_of}
use Rattle.top_model.specs.Said.{committed}
use Rattle.top_model.specs.Orders.{committing}
use Rattle.top_model.specs.Machine.{commit_cause}
use Rattle.top_model.proofs.lemmas.Taken.{takes_only}
use Rattle.top_model.specs.Runs.{Run, run_of}
use Rattle.top_model.specs.Answered.{Unbegun}
use Rattle.top_model.proofs.lemmas.Unbegun.{unchanged}
use Rattle.top_model.proofs.lemmas.Commits.{answered}
use Rattle.answer_text.proofs.lemmas.Told.{told_done}
use Rattle.command_laws.proofs.lemmas.Named.{commit_named}
use Rattle.command_laws.proofs.lemmas.Telling.{says_as, refusal_told, commit_reads}
use Rattle.engine_commands.proofs.commit.commit_run.Goals as goal

-- a refusal, and a fault before the clearing, left the host as it was
idle : (r : Run) (fault : CommitFault) → (IsRefusal fault → IsUnbegun r.host_tells r.host r.host_after) → Unbegun r (Ok committing) (Err (commit_cause fault))
idle r NoCheckpoint is = unchanged r (is tt)
idle r (Unfinished since deadline) is = unchanged r (is tt)
idle r (Expired since deadline) is = unchanged r (is tt)
idle r HostFault is = unchanged r (is tt)
idle r InDoubt is = tt

pub returns-in-Ok : goal.returns-in-Ok
returns-in-Ok g c = λ words in_script src src_after asked.
    let r = run_of g.H.Host g.S.Source g.W.Sink words in_script c.args.now c.args.host.now c.commit.new.host src src_after c.args.out.now c.tell_done.new.out c.args.err.now c.tell_done.new.err c.tell_done.result in
    let e = c.in-Ok.ensures in
    answered r (commit_named in_script asked.inputs (command_of r.words) asked.is) g.met.H.Host.honest_tells (Ok c.in-Ok.field-0) e.answer e.exit e.reads e.kept tt e.kernel.kernel
    (record { host = e.later; source = asked.later; out = c.tell_done.ensures.out; err = c.tell_done.ensures.err; inputs = asked.same; takes = takes_only r _ asked.takes; lawful = g.met.H.Host.lawful c.args.host.now; tells = g.met.H.Host.honest_tells })
    (told_done r (Ok committing) (λ c t e. e) committed c.as_bytes.result.now [] (says_as committed c.as_bytes.result.now c.committed_line.result c.as_bytes.ensures c.committed_line.ensures) refl c.tell_done.ensures.told)

pub returns-in-Err : goal.returns-in-Err
returns-in-Err g c = λ words in_script src src_after asked.
    let r = run_of g.H.Host g.S.Source g.W.Sink words in_script c.args.now c.args.host.now c.commit.new.host src src_after c.args.out.now c.tell_refused.new.out c.args.err.now c.tell_refused.new.err c.tell_refused.result in
    let e = c.in-Err.ensures in
    answered r (commit_named in_script asked.inputs (command_of r.words) asked.is) g.met.H.Host.honest_tells (Err c.in-Err.fault) e.answer e.exit e.reads e.kept (idle r c.in-Err.fault e.unbegun) e.kernel.kernel
    (record { host = e.later; source = asked.later; out = c.tell_refused.ensures.out; err = c.tell_refused.ensures.err; inputs = asked.same; takes = takes_only r _ asked.takes; lawful = g.met.H.Host.lawful c.args.host.now; tells = g.met.H.Host.honest_tells })
    (refusal_told r (Ok committing) (λ c t e. e) c.commit_cause.result (commit_cause c.in-Err.fault) [] c.commit_cause.ensures refl (commit_reads c.in-Err.fault) c.tell_refused.ensures.told)
