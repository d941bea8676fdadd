use Rattle.base_model.specs.PathText.{steps_text}
use Rattle.answer_text.proofs.Pieces.{follow}
use Rattle.answer_text.proofs.writing.write_from_key.Goals as goal

pub returns : goal.returns
returns g c = follow g.W.Sink.tells c.args.key.now (steps_text c.args.rest.now) (g.W.Sink.told c.args.sink.now) (g.W.Sink.told c.write_text.new.sink) (g.W.Sink.told c.write_steps.new.sink) c.in_ok-write_text.field-0 c.write_steps.result c.in_ok-write_text.ensures c.write_steps.ensures
