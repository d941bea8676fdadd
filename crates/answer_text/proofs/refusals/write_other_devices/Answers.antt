use Rattle.std.proofs.Common.{codes, ◌++◌, refl}
use Rattle.top_model.specs.Texts.{spaced, error}
use Rattle.answer_text.proofs.Pieces.{follow, cut}
use Rattle.answer_text.proofs.refusals.write_other_devices.Goals as goal

pub returns-in_err-write_text : goal.returns-in_err-write_text
returns-in_err-write_text g c = cut g.W.Sink.tells (codes "error: hardware differs: ") (spaced c.args.names.now ++ codes "\n") (error (codes "hardware differs: " ++ spaced c.args.names.now)) (g.W.Sink.told c.args.err.now) (g.W.Sink.told c.write_text.new.sink) c.in_err-write_text.field-0.0 c.from_residual.result c.from_residual.ensures.0 refl c.in_err-write_text.ensures

pub returns-in_err-write_names : goal.returns-in_err-write_names
returns-in_err-write_names g c =
    follow g.W.Sink.tells (codes "error: hardware differs: ") (spaced c.args.names.now ++ codes "\n") (g.W.Sink.told c.args.err.now) (g.W.Sink.told c.write_text.new.sink) (g.W.Sink.told c.write_names.new.sink) c.in_ok-write_text.field-0 c.from_residual-in_err-write_names.result c.in_ok-write_text.ensures
    (cut g.W.Sink.tells (spaced c.args.names.now) (codes "\n") (spaced c.args.names.now ++ codes "\n") (g.W.Sink.told c.write_text.new.sink) (g.W.Sink.told c.write_names.new.sink) c.in_err-write_names.field-0.0 c.from_residual-in_err-write_names.result c.from_residual-in_err-write_names.ensures.0 refl c.in_err-write_names.ensures)

pub returns : goal.returns
returns g c =
    follow g.W.Sink.tells (codes "error: hardware differs: ") (spaced c.args.names.now ++ codes "\n") (g.W.Sink.told c.args.err.now) (g.W.Sink.told c.write_text.new.sink) (g.W.Sink.told c.write_text-2.new.sink) c.in_ok-write_text.field-0 c.write_text-2.result c.in_ok-write_text.ensures
    (follow g.W.Sink.tells (spaced c.args.names.now) (codes "\n") (g.W.Sink.told c.write_text.new.sink) (g.W.Sink.told c.write_names.new.sink) (g.W.Sink.told c.write_text-2.new.sink) c.in_ok-write_names.field-0 c.write_text-2.result c.in_ok-write_names.ensures c.write_text-2.ensures)
