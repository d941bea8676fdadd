use Rattle.std.proofs.Common.{[]}
use Rattle.service_run.proofs.Pieces.{tells_on, nothing}
use Rattle.service_run.proofs.telling.tell_unlisted.Goals as goal

pub returns : goal.returns
returns g c =
    tells_on g.W.Sink.tells [] c.args.cause (g.W.Sink.told c.args.out.now) (g.W.Sink.told c.tell_refused.new.out) (g.W.Sink.told c.args.err.now) (g.W.Sink.told c.args.err.now) (g.W.Sink.told c.tell_refused.new.err) c.tell_refused.result
    (nothing g.W.Sink.tells (g.W.Sink.told c.args.err.now)) c.tell_refused.ensures.told c.tell_refused.ensures.out c.tell_refused.ensures.err
