use Rattle.std.proofs.Common.{refl, []}
use Rattle.top_model.specs.Said.{printed}
use Rattle.std.specs.Prelude.{Ok}
use Rattle.top_model.specs.Orders.{showing}
use Rattle.top_model.proofs.lemmas.Taken.{takes_only}
use Rattle.top_model.specs.Runs.{run_of}
use Rattle.command_laws.proofs.lemmas.Looks.{told_text, told_refusal, not_unread, show_answered}
use Rattle.plain_commands.proofs.show.show_run.Goals as goal

pub returns-in-Ok : goal.returns-in-Ok
returns-in-Ok g c = λ now words in_script src src_after asked.
    let r = run_of g.H.Host g.S.Source g.W.Sink words in_script now c.args.host.now c.printed.new.host src src_after c.args.out.now c.tell_done.new.out c.args.err.now c.tell_done.new.err c.tell_done.result in
    let l = c.in-Ok.ensures.text in
    show_answered r c.args.only.now c.args.json c.in-Ok.ensures.looks l.answer l.looked (record {
      inputs = asked.inputs;
      may_read = asked.may_read;
      is = asked.is;
      told = told_text r (showing c.args.only.now c.args.json) (λ c t e. e) [] refl l.answer c.in-Ok.text c.as_slice.result.now c.as_slice.ensures.value l.text c.tell_done.ensures.told;
      goes_on = record { host = c.in-Ok.ensures.looks.later; source = asked.later; out = c.tell_done.ensures.out; err = c.tell_done.ensures.err; inputs = asked.same; takes = takes_only r _ asked.takes; lawful = g.met.H.Host.lawful c.args.host.now; tells = g.met.H.Host.honest_tells };
    })

pub returns-in-Err : goal.returns-in-Err
returns-in-Err g c = λ now words in_script src src_after asked.
    let r = run_of g.H.Host g.S.Source g.W.Sink words in_script now c.args.host.now c.printed.new.host src src_after c.args.out.now c.tell_refused.new.out c.args.err.now c.tell_refused.new.err c.tell_refused.result in
    let l = c.in-Err.ensures.text in
    show_answered r c.args.only.now c.args.json c.in-Err.ensures.looks l.answer l.looked (record {
      inputs = asked.inputs;
      may_read = asked.may_read;
      is = asked.is;
      told = told_refusal r (showing c.args.only.now c.args.json) (λ c t e. e) [] refl l.answer c.in-Err.cause l.text
          (not_unread r.host_tells r.honest (λ net. Ok (printed c.args.only.now c.args.json net)) r.host r.host_after l.answer c.in-Err.cause l.looked l.text) c.tell_refused.ensures.told;
      goes_on = record { host = c.in-Err.ensures.looks.later; source = asked.later; out = c.tell_refused.ensures.out; err = c.tell_refused.ensures.err; inputs = asked.same; takes = takes_only r _ asked.takes; lawful = g.met.H.Host.lawful c.args.host.now; tells = g.met.H.Host.honest_tells };
    })
