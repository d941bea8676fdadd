use Rattle.std.proofs.Common.{inl, refl, arith}
use Rattle.std.specs.Prelude.{[], Ok}
use Rattle.top_model.specs.Orders.{applying}
use Rattle.top_model.proofs.lemmas.Taken.{takes_only}
use Rattle.top_model.specs.Runs.{run_of}
use Rattle.top_model.specs.declared.report.Cause.TheVariants.{OutOfMemory}
use Rattle.answer_text.proofs.lemmas.Told.{told_refused}
use Rattle.command_laws.proofs.lemmas.Applies.{may_want}
use Rattle.command_laws.proofs.lemmas.Untouched.{out_of_memory}
use Rattle.engine_commands.proofs.apply.apply_run.Goals as goal

pub returns-in-Err : goal.returns-in-Err
returns-in-Err g c = λ words in_script src src_after asked.
    let r = run_of g.H.Host g.S.Source g.W.Sink words in_script c.args.now c.args.host.now c.args.host.now src src_after c.args.out.now c.tell_refused.new.out c.args.err.now c.tell_refused.new.err c.tell_refused.result in
    out_of_memory r refl (record { host = omega arith; source = asked.later; out = c.tell_refused.ensures.out; err = c.tell_refused.ensures.err; inputs = asked.same; takes = takes_only r _ asked.takes; lawful = g.met.H.Host.lawful c.args.host.now; tells = g.met.H.Host.honest_tells })
    (Ok (applying c.args.doc.now c.args.opts.now)) (asked.inputs, asked.may_read, asked.is) (may_want r c.args.doc.now c.args.opts.now asked.inputs asked.is)
    (told_refused r (Ok (applying c.args.doc.now c.args.opts.now)) OutOfMemory [] (inl refl) c.tell_refused.ensures.told)
