use Rattle.std.proofs.Common.{ℕ, List, codes, ◌++◌, sym, ap}
use Rattle.top_model.specs.Texts.{error, at_path, policy_words}
use Rattle.policy_model.specs.declared.PolicyFault.{PolicyFault}
use Rattle.answer_text.proofs.Pieces.{same}
use Rattle.answer_text.proofs.refusals.write_policy_fault.Goals as goal

abbrev told : PolicyFault → List ℕ
told fault = error (codes "document: " ++ policy_words fault)

pub returns-in-WrongShape : goal.returns-in-WrongShape
returns-in-WrongShape g c = same g.W.Sink.tells (error (codes "document: " ++ at_path (codes "WrongShape") c.in-WrongShape.path)) (told c.args.fault.now) (g.W.Sink.told c.args.err.now) (g.W.Sink.told c.write_at_path.new.err) c.write_at_path.result (sym (ap told c.in-WrongShape.is)) c.write_at_path.ensures

pub returns-in-BadExpression : goal.returns-in-BadExpression
returns-in-BadExpression g c = same g.W.Sink.tells (error (codes "document: " ++ at_path (codes "BadExpression") c.in-BadExpression.path)) (told c.args.fault.now) (g.W.Sink.told c.args.err.now) (g.W.Sink.told c.write_at_path-in-BadExpression.new.err) c.write_at_path-in-BadExpression.result (sym (ap told c.in-BadExpression.is)) c.write_at_path-in-BadExpression.ensures

pub returns-in-UnknownCapture : goal.returns-in-UnknownCapture
returns-in-UnknownCapture g c = same g.W.Sink.tells (error (codes "document: " ++ at_path (codes "UnknownCapture") c.in-UnknownCapture.path)) (told c.args.fault.now) (g.W.Sink.told c.args.err.now) (g.W.Sink.told c.write_at_path-in-UnknownCapture.new.err) c.write_at_path-in-UnknownCapture.result (sym (ap told c.in-UnknownCapture.is)) c.write_at_path-in-UnknownCapture.ensures

pub returns-in-CaptureCycle : goal.returns-in-CaptureCycle
returns-in-CaptureCycle g c = same g.W.Sink.tells (error (codes "document: " ++ at_path (codes "CaptureCycle") c.in-CaptureCycle.path)) (told c.args.fault.now) (g.W.Sink.told c.args.err.now) (g.W.Sink.told c.write_at_path-in-CaptureCycle.new.err) c.write_at_path-in-CaptureCycle.result (sym (ap told c.in-CaptureCycle.is)) c.write_at_path-in-CaptureCycle.ensures

pub returns-in-NoValue : goal.returns-in-NoValue
returns-in-NoValue g c = same g.W.Sink.tells (error (codes "document: " ++ at_path (codes "NoValue") c.in-NoValue.path)) (told c.args.fault.now) (g.W.Sink.told c.args.err.now) (g.W.Sink.told c.write_at_path-in-NoValue.new.err) c.write_at_path-in-NoValue.result (sym (ap told c.in-NoValue.is)) c.write_at_path-in-NoValue.ensures

pub returns-in-TooDeep : goal.returns-in-TooDeep
returns-in-TooDeep g c = same g.W.Sink.tells (codes "error: document: TooDeep\n") (told c.args.fault.now) (g.W.Sink.told c.args.err.now) (g.W.Sink.told c.write_text.new.sink) c.write_text.result (sym (ap told c.in-TooDeep.is)) c.write_text.ensures

pub returns-in-TooLarge : goal.returns-in-TooLarge
returns-in-TooLarge g c = same g.W.Sink.tells (codes "error: document: TooLarge\n") (told c.args.fault.now) (g.W.Sink.told c.args.err.now) (g.W.Sink.told c.write_text-in-TooLarge.new.sink) c.write_text-in-TooLarge.result (sym (ap told c.in-TooLarge.is)) c.write_text-in-TooLarge.ensures

pub returns-in-OutOfMemory : goal.returns-in-OutOfMemory
returns-in-OutOfMemory g c = same g.W.Sink.tells (codes "error: document: \n") (told c.args.fault.now) (g.W.Sink.told c.args.err.now) (g.W.Sink.told c.write_text-in-OutOfMemory.new.sink) c.write_text-in-OutOfMemory.result (sym (ap told c.in-OutOfMemory.is)) c.write_text-in-OutOfMemory.ensures
