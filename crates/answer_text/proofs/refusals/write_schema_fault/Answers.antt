use Rattle.std.proofs.Common.{ℕ, List, codes, ◌++◌, sym, ap}
use Rattle.top_model.specs.Texts.{error, at_path, schema_words}
use Rattle.tree_schema.specs.declared.SchemaFault.{SchemaFault}
use Rattle.answer_text.proofs.Pieces.{same}
use Rattle.answer_text.proofs.refusals.write_schema_fault.Goals as goal

abbrev told : SchemaFault → List ℕ
told fault = error (codes "document: " ++ schema_words fault)

pub returns-in-OutOfRange : goal.returns-in-OutOfRange
returns-in-OutOfRange g c = same g.W.Sink.tells (error (codes "document: " ++ at_path (codes "OutOfRange") c.in-OutOfRange.path)) (told c.args.fault.now) (g.W.Sink.told c.args.err.now) (g.W.Sink.told c.write_at_path-in-OutOfRange.new.err) c.write_at_path-in-OutOfRange.result (sym (ap told c.in-OutOfRange.is)) c.write_at_path-in-OutOfRange.ensures

pub returns-in-Unsupported : goal.returns-in-Unsupported
returns-in-Unsupported g c = same g.W.Sink.tells (error (codes "document: " ++ at_path (codes "Unsupported") c.in-Unsupported.path)) (told c.args.fault.now) (g.W.Sink.told c.args.err.now) (g.W.Sink.told c.write_at_path-in-Unsupported.new.err) c.write_at_path-in-Unsupported.result (sym (ap told c.in-Unsupported.is)) c.write_at_path-in-Unsupported.ensures

pub returns-in-OutOfMemory : goal.returns-in-OutOfMemory
returns-in-OutOfMemory g c = same g.W.Sink.tells (codes "error: document: \n") (told c.args.fault.now) (g.W.Sink.told c.args.err.now) (g.W.Sink.told c.write_text.new.sink) c.write_text.result (sym (ap told c.in-OutOfMemory.is)) c.write_text.ensures
