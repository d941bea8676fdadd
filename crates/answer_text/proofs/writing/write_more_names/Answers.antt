use Rattle.std.proofs.Common.{ℕ, List, codes, ◌++◌}
use Rattle.std.specs.Prelude.{Ok, Err}
use Rattle.answer_text.proofs.Pieces.{same, loop_on, loop_cut}
use Rattle.answer_text.proofs.writing.write_more_names.Goals as goal

pub loop-name-preserved : goal.loop-name-preserved
loop-name-preserved g c = loop_on g.W.Sink.tells (λ (name : List ℕ). codes " " ++ name) c.args.names.now c.loop-name.name-index c.name-item.result (g.W.Sink.told c.args.sink.now) (g.W.Sink.told c.loop-name.sink) (g.W.Sink.told c.write_line.new.sink) c.in_ok-write_line.field-0 c.loop-name-test.true c.name-item.is c.loop-name.invariant
    (same g.W.Sink.tells c.spaced_name.result (codes " " ++ c.name-item.result) (g.W.Sink.told c.loop-name.sink) (g.W.Sink.told c.write_line.new.sink) (Ok c.in_ok-write_line.field-0) c.spaced_name.ensures c.in_ok-write_line.ensures)

pub returns-in_err-write_line : goal.returns-in_err-write_line
returns-in_err-write_line g c = loop_cut g.W.Sink.tells (λ (name : List ℕ). codes " " ++ name) c.args.names.now c.loop-name.name-index c.name-item.result (g.W.Sink.told c.args.sink.now) (g.W.Sink.told c.loop-name.sink) (g.W.Sink.told c.write_line.new.sink) c.in_err-write_line.field-0.0 c.from_residual.result c.loop-name-test.true c.name-item.is c.from_residual.ensures.0 c.loop-name.invariant
    (same g.W.Sink.tells c.spaced_name.result (codes " " ++ c.name-item.result) (g.W.Sink.told c.loop-name.sink) (g.W.Sink.told c.write_line.new.sink) (Err c.in_err-write_line.field-0.0) c.spaced_name.ensures c.in_err-write_line.ensures)
