use Rattle.std.proofs.Common.{ℕ, List, codes, ◌++◌}
use Rattle.std.specs.List.{flat_map}
use Rattle.std.specs.Prelude.{Ok}
use Rattle.answer_text.proofs.Pieces.{same, follow}
use Rattle.answer_text.proofs.writing.write_from_name.Goals as goal

pub returns : goal.returns
returns g c = follow g.W.Sink.tells c.args.first.now (flat_map (λ (name : List ℕ). codes " " ++ name) c.args.more.now) (g.W.Sink.told c.args.sink.now) (g.W.Sink.told c.write_text.new.sink) (g.W.Sink.told c.write_more_names.new.sink) c.in_ok-write_text.field-0 c.write_more_names.result
    (same g.W.Sink.tells c.as_bytes.result.now c.args.first.now (g.W.Sink.told c.args.sink.now) (g.W.Sink.told c.write_text.new.sink) (Ok c.in_ok-write_text.field-0) c.as_bytes.ensures.bytes c.in_ok-write_text.ensures) c.write_more_names.ensures
