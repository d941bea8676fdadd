use Rattle.service_run.specs.Documents.{at_line}
use Rattle.service_run.proofs.Pieces.{follow}
use Rattle.service_run.proofs.telling.write_stop.Goals as goal

pub returns : goal.returns
returns g c = follow g.W.Sink.tells c.args.notes.now (at_line c.args.name.now) (g.W.Sink.told c.args.err.now) (g.W.Sink.told c.write_text.new.sink) (g.W.Sink.told c.write_line.new.sink) c.write_line.result c.in_ok-write_text.ensures c.write_line.ensures
