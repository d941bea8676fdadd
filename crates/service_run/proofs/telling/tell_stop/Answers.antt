use Rattle.std.proofs.Common.{Bool, ◌++◌, sym, subst}
use Rattle.top_model.specs.Texts.{error_line}
use Rattle.service_run.specs.Documents.{at_line}
use Rattle.service_run.specs.Telling.{Tells, sinks}
use Rattle.service_run.proofs.Pieces.{tells_on, tells_cut, tells_silent}
use Rattle.service_run.proofs.telling.tell_stop.Goals as goal

pub returns-then-not-is_open : goal.returns-then-not-is_open
returns-then-not-is_open g c =
    let now = sinks (g.W.Sink.told c.args.out.now) (g.W.Sink.told c.args.err.now) in
    let text = (c.args.notes.now ++ at_line c.args.name.now) ++ error_line c.args.cause in
    subst (λ (b : Bool). Tells g.W.Sink.tells text c.args.cause now now b c.cut_off.result) (sym c.if-not-is_open.true) (tells_silent g.W.Sink.tells text c.args.cause now c.cut_off.result c.cut_off.ensures)

pub returns-in-Ok : goal.returns-in-Ok
returns-in-Ok g c =
    let text = c.args.notes.now ++ at_line c.args.name.now in
    subst (λ (b : Bool). Tells g.W.Sink.tells (text ++ error_line c.args.cause) c.args.cause (sinks (g.W.Sink.told c.args.out.now) (g.W.Sink.told c.args.err.now)) (sinks (g.W.Sink.told c.tell_refused.new.out) (g.W.Sink.told c.tell_refused.new.err)) b c.tell_refused.result)
    (sym c.if-not-is_open.false)
    (tells_on g.W.Sink.tells text c.args.cause (g.W.Sink.told c.args.out.now) (g.W.Sink.told c.tell_refused.new.out) (g.W.Sink.told c.args.err.now) (g.W.Sink.told c.write_stop.new.err) (g.W.Sink.told c.tell_refused.new.err) c.tell_refused.result
    c.in-Ok.ensures c.tell_refused.ensures.told c.tell_refused.ensures.out c.tell_refused.ensures.err)

pub returns-in-Err : goal.returns-in-Err
returns-in-Err g c =
    let text = c.args.notes.now ++ at_line c.args.name.now in
    subst (λ (b : Bool). Tells g.W.Sink.tells (text ++ error_line c.args.cause) c.args.cause (sinks (g.W.Sink.told c.args.out.now) (g.W.Sink.told c.args.err.now)) (sinks (g.W.Sink.told c.args.out.now) (g.W.Sink.told c.write_stop.new.err)) b c.cut_off-in-Err.result)
    (sym c.if-not-is_open.false)
    (tells_cut g.W.Sink.tells text c.args.cause (g.W.Sink.told c.args.out.now) (g.W.Sink.told c.args.err.now) (g.W.Sink.told c.write_stop.new.err) c.cut_off-in-Err.result _ c.in-Err.ensures c.cut_off-in-Err.ensures)
