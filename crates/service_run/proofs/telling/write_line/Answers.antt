use Rattle.std.proofs.Common.{◌++◌, codes}
use Rattle.service_run.proofs.Pieces.{follow}
use Rattle.service_run.proofs.telling.write_line.Goals as goal

pub returns : goal.returns
returns g c = follow g.W.Sink.tells (c.args.words.now ++ c.args.name.now) (codes "\n") (g.W.Sink.told c.args.sink.now) (g.W.Sink.told c.write_named.new.sink) (g.W.Sink.told c.write_text.new.sink) c.write_text.result c.in_ok-write_named.ensures c.write_text.ensures
