use Rattle.std.proofs.Common.{ℕ, List, codes, ◌++◌, sym, ap}
use Rattle.top_model.specs.Texts.{error, json_words}
use Rattle.doc_tree.specs.declared.JsonFault.{JsonFault}
use Rattle.answer_text.proofs.Pieces.{same}
use Rattle.answer_text.proofs.refusals.write_json_fault.Goals as goal

abbrev told : JsonFault → List ℕ
told fault = error (codes "document: " ++ json_words fault)

pub returns-in-NotJson : goal.returns-in-NotJson
returns-in-NotJson g c = same g.W.Sink.tells (codes "error: document: NotJson\n") (told c.args.fault.now) (g.W.Sink.told c.args.err.now) (g.W.Sink.told c.write_text.new.sink) c.write_text.result (sym (ap told c.in-NotJson.is)) c.write_text.ensures

pub returns-in-TooDeep : goal.returns-in-TooDeep
returns-in-TooDeep g c = same g.W.Sink.tells (codes "error: document: TooDeep\n") (told c.args.fault.now) (g.W.Sink.told c.args.err.now) (g.W.Sink.told c.write_text-in-TooDeep.new.sink) c.write_text-in-TooDeep.result (sym (ap told c.in-TooDeep.is)) c.write_text-in-TooDeep.ensures

pub returns-in-TooLarge : goal.returns-in-TooLarge
returns-in-TooLarge g c = same g.W.Sink.tells (codes "error: document: TooLarge\n") (told c.args.fault.now) (g.W.Sink.told c.args.err.now) (g.W.Sink.told c.write_text-in-TooLarge.new.sink) c.write_text-in-TooLarge.result (sym (ap told c.in-TooLarge.is)) c.write_text-in-TooLarge.ensures

pub returns-in-OutOfMemory : goal.returns-in-OutOfMemory
returns-in-OutOfMemory g c = same g.W.Sink.tells (codes "error: document: \n") (told c.args.fault.now) (g.W.Sink.told c.args.err.now) (g.W.Sink.told c.write_text-in-OutOfMemory.new.sink) c.write_text-in-OutOfMemory.result (sym (ap told c.in-OutOfMemory.is)) c.write_text-in-OutOfMemory.ensures
