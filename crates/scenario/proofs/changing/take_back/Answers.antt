use Rattle.std.proofs.Common.{arith}
use Rattle.engine_model.specs.Machine.{rollback}
use Rattle.checkpoint_cell.specs.Settled.{standing}
use Rattle.engine_model.specs.Faults.{HasSet}
use Rattle.scenario_model.specs.Saying.{past_of}
use Rattle.scenario.proofs.Says.{back_past, past_here}
use Rattle.scenario.proofs.Answers.{back_answers, back_done}
use Rattle.scenario.proofs.changing.take_back.Goals as goal

pub returns-in-Ok-clause-done : goal.returns-in-Ok-clause-done
returns-in-Ok-clause-done g c = λ h ck from to saved at. record {
  sound = (c.in-Ok.ensures.kept h at.sound).sound;
  reads = back_done from to ck saved (g.H.Host.told c.args.host.now) (g.H.Host.told c.rollback.new.host) at.reads (HasSet (standing (g.H.Host.told c.args.host.now).state).cell) (c.in-Ok.ensures.answer h at.sound);
}

pub returns-in-Err-clause-says : goal.returns-in-Err-clause-says
returns-in-Err-clause-says g c = λ first second. record {
  past = past_of (g.H.Host.told c.args.host.now);
  later = past_here g.H.Host.tells (past_of (g.H.Host.told c.args.host.now));
  says = back_past g.H.Host.tells (rollback (standing (g.H.Host.told c.args.host.now).state)).answer (g.H.Host.told c.args.host.now) (g.H.Host.told c.rollback.new.host) c.in-Err.fault c.in-Err.ensures.says;
  counts = c.in-Err.ensures.counts;
}

pub returns-in-Err-clause-answer : goal.returns-in-Err-clause-answer
returns-in-Err-clause-answer g c = λ h ck from to saved at made.
    back_answers from to ck saved (g.H.Host.told c.args.host.now) (g.H.Host.told c.rollback.new.host) at.reads made _ _ c.in-Err.fault (c.in-Err.ensures.answer h at.sound) (c.in-Err.ensures.exit h at.sound)

pub returns-in-Ok-clause-follows : goal.returns-in-Ok-clause-follows
returns-in-Ok-clause-follows g c = record { faults = c.rollback.ensures.later; quiet = c.in-Ok.ensures.counts; moment = λ told. c.rollback.ensures.moment }
