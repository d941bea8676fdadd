use Rattle.service_run.specs.Documents.{applied_line}
use Rattle.service_run.proofs.Pieces.{both_cut, both_follow}
use Rattle.service_run.proofs.telling.write_applied.Goals as goal

pub returns-in-Err : goal.returns-in-Err
returns-in-Err g c = both_cut g.W.Sink.tells (applied_line c.args.name.now) c.args.notes.now (g.W.Sink.told c.args.out.now) (g.W.Sink.told c.args.err.now) (g.W.Sink.told c.write_text.new.sink) _ _ c.in-Err.ensures

pub returns-in-Ok : goal.returns-in-Ok
returns-in-Ok g c = both_follow g.W.Sink.tells (applied_line c.args.name.now) c.args.notes.now (g.W.Sink.told c.args.out.now) (g.W.Sink.told c.write_line.new.sink) (g.W.Sink.told c.args.err.now) (g.W.Sink.told c.write_text.new.sink) c.write_line.result
    c.in-Ok.ensures c.write_line.ensures
