use Rattle.base_model.specs.PathText.{step_text}
use Rattle.answer_text.proofs.Pieces.{loop_on, loop_cut}
use Rattle.answer_text.proofs.writing.write_steps.Goals as goal

pub loop-step-preserved : goal.loop-step-preserved
loop-step-preserved g c = loop_on g.W.Sink.tells step_text c.args.steps.now c.loop-step.step-index c.step-item.result (g.W.Sink.told c.args.sink.now) (g.W.Sink.told c.loop-step.sink) (g.W.Sink.told c.write_step.new.sink) c.in_ok-write_step.field-0 c.loop-step-test.true c.step-item.is c.loop-step.invariant c.in_ok-write_step.ensures

pub returns-in_err-write_step : goal.returns-in_err-write_step
returns-in_err-write_step g c = loop_cut g.W.Sink.tells step_text c.args.steps.now c.loop-step.step-index c.step-item.result (g.W.Sink.told c.args.sink.now) (g.W.Sink.told c.loop-step.sink) (g.W.Sink.told c.write_step.new.sink) c.in_err-write_step.field-0.0 c.from_residual.result c.loop-step-test.true c.step-item.is c.from_residual.ensures.0 c.loop-step.invariant c.in_err-write_step.ensures
