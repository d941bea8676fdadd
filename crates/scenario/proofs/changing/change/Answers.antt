use Rattle.std.proofs.Common.{arith}
use Rattle.engine_model.specs.Machine.{asked}
use Rattle.scenario_model.specs.Saying.{past_of}
use Rattle.scenario.proofs.Says.{apply_past, past_here}
use Rattle.scenario.proofs.Answers.{change_answers, change_done}
use Rattle.scenario.proofs.changing.change.Goals as goal

pub returns-in-Ok-clause-done : goal.returns-in-Ok-clause-done
returns-in-Ok-clause-done g c = λ h from at.
    let to = change_done (asked c.args.doc.now c.args.opts.now c.args.now) from (g.H.Host.told c.apply.new.host) (g.H.Host.told c.args.host.now) at.reads c.in-Ok._done (c.in-Ok.ensures.answer h at.sound) in
    (to.0, to.1, record { sound = (c.in-Ok.ensures.kept h at.sound).sound; reads = to.2 })

pub returns-in-Err-clause-says : goal.returns-in-Err-clause-says
returns-in-Err-clause-says g c = λ first second is. record {
  asked = asked c.args.doc.now c.args.opts.now c.args.now;
  is = is;
  past = past_of (g.H.Host.told c.args.host.now);
  later = past_here g.H.Host.tells (past_of (g.H.Host.told c.args.host.now));
  says = apply_past g.H.Host.tells (asked c.args.doc.now c.args.opts.now c.args.now) (g.H.Host.told c.args.host.now) (g.H.Host.told c.apply.new.host) c.in-Err.fault c.in-Err.ensures.says;
  counts = c.in-Err.ensures.counts;
}

pub returns-in-Err-clause-answer : goal.returns-in-Err-clause-answer
returns-in-Err-clause-answer g c = λ h from at.
    change_answers (asked c.args.doc.now c.args.opts.now c.args.now) from (g.H.Host.told c.apply.new.host) (g.H.Host.told c.args.host.now) at.reads c.in-Err.fault (c.in-Err.ensures.answer h at.sound)

pub returns-in-Ok-clause-follows : goal.returns-in-Ok-clause-follows
returns-in-Ok-clause-follows g c = record { faults = c.apply.ensures.later; quiet = c.in-Ok.ensures.counts; moment = λ told. c.apply.ensures.moment }
