use Rattle.std.proofs.Common.{codes}
use Rattle.answer_text.proofs.Pieces.{follow}
use Rattle.answer_text.proofs.writing.write_key.Goals as goal

pub returns : goal.returns
returns g c = follow g.W.Sink.tells (codes ".") c.args.key.now (g.W.Sink.told c.args.sink.now) (g.W.Sink.told c.write_text.new.sink) (g.W.Sink.told c.write_text-2.new.sink) c.in_ok-write_text.field-0 c.write_text-2.result c.in_ok-write_text.ensures c.write_text-2.ensures
