use Rattle.top_model.specs.Texts.{error_line}
use Rattle.answer_text.proofs.Pieces.{follow}
use Rattle.answer_text.proofs.telling.write_errors.Goals as goal

pub returns : goal.returns
returns g c = follow g.W.Sink.tells c.args.notes.now (error_line c.args.cause.now) (g.W.Sink.told c.args.err.now) (g.W.Sink.told c.write_text.new.sink) (g.W.Sink.told c.write_error.new.err) c.in_ok-write_text.field-0 c.write_error.result c.in_ok-write_text.ensures c.write_error.ensures
