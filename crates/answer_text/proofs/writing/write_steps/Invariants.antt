use Rattle.std.proofs.Common.{take}
use Rattle.std.specs.Prelude.{Ok}
use Rattle.base_model.specs.PathText.{steps_text}
use Rattle.answer_text.specs.Writing.{Writes}
use Rattle.answer_text.proofs.writing.write_steps.Given as goal

-- the steps so far were written
abbrev pub invariant-loop-step : goal.invariant-loop-step
invariant-loop-step g l = Writes g.W.Sink.tells (steps_text (take l.step-index l.steps)) (g.W.Sink.told l.initial.sink) (g.W.Sink.told l.sink) (Ok tt)
