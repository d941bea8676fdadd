use Rattle.std.proofs.Common.{sym, subst}
use Rattle.std.specs.Prelude.{Ok, Err}
use Rattle.top_model.specs.Said.{Says, made}
use Rattle.top_model.proofs.lemmas.Taken.{takes_only}
use Rattle.top_model.specs.Runs.{run_of}
use Rattle.command_laws.proofs.lemmas.Makes.{told_made, told_unmade, not_unread, make_answered}
use Rattle.plain_commands.proofs.init.init_run.Goals as goal

pub returns-in-Ok : goal.returns-in-Ok
returns-in-Ok g c = λ now words in_script src src_after asked.
    let r = run_of g.H.Host g.S.Source g.W.Sink words in_script now c.args.host.now c.make_first.new.host src src_after c.args.out.now c.tell_done.new.out c.args.err.now c.tell_done.new.err c.tell_done.result in
    let m = c.in-Ok.ensures in
    make_answered r c.args.links (Ok c.in-Ok.count) m (record {
      inputs = asked.inputs;
      may_read = asked.may_read;
      is = asked.is;
      told = told_made r c.args.links c.in-Ok.count c.as_bytes.result.now m.answer.0 (subst (Says (made c.in-Ok.count)) (sym c.as_bytes.ensures) c.made_line.ensures) c.tell_done.ensures.told;
      goes_on = record { host = m.later; source = asked.later; out = c.tell_done.ensures.out; err = c.tell_done.ensures.err; inputs = asked.same; takes = takes_only r _ asked.takes; lawful = g.met.H.Host.lawful c.args.host.now; tells = g.met.H.Host.honest_tells };
    })

pub returns-in-Err : goal.returns-in-Err
returns-in-Err g c = λ now words in_script src src_after asked.
    let r = run_of g.H.Host g.S.Source g.W.Sink words in_script now c.args.host.now c.make_first.new.host src src_after c.args.out.now c.tell_refused.new.out c.args.err.now c.tell_refused.new.err c.tell_refused.result in
    let m = c.in-Err.ensures in
    make_answered r c.args.links (Err c.in-Err.cause) m (record {
      inputs = asked.inputs;
      may_read = asked.may_read;
      is = asked.is;
      told = told_unmade r c.args.links c.in-Err.cause (not_unread r.host_tells c.args.links r.host r.host_after c.in-Err.cause m.answer) c.tell_refused.ensures.told;
      goes_on = record { host = m.later; source = asked.later; out = c.tell_refused.ensures.out; err = c.tell_refused.ensures.err; inputs = asked.same; takes = takes_only r _ asked.takes; lawful = g.met.H.Host.lawful c.args.host.now; tells = g.met.H.Host.honest_tells };
    })
