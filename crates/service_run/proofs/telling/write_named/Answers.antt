use Rattle.std.proofs.Common.{List, ℕ, subst}
use Rattle.answer_text.specs.Writing.{Writes}
use Rattle.service_run.proofs.Pieces.{follow}
use Rattle.service_run.proofs.telling.write_named.Goals as goal

pub returns : goal.returns
returns g c = follow g.W.Sink.tells c.args.words.now c.args.name.now (g.W.Sink.told c.args.sink.now) (g.W.Sink.told c.write_text.new.sink) (g.W.Sink.told c.write_text-2.new.sink) c.write_text-2.result c.in_ok-write_text.ensures
    (subst (λ (t : List ℕ). Writes g.W.Sink.tells t (g.W.Sink.told c.write_text.new.sink) (g.W.Sink.told c.write_text-2.new.sink) c.write_text-2.result) c.as_bytes.ensures.bytes c.write_text-2.ensures)
