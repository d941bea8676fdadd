use Rattle.std.proofs.Common.{Bool, false, true, sym, subst}
use Rattle.service_run.specs.Documents.{applied_line}
use Rattle.service_run.specs.Telling.{Speaks, sinks}
use Rattle.service_run.proofs.Pieces.{silent}
use Rattle.service_run.proofs.telling.tell_applied.Goals as goal

pub returns-then-not-is_open : goal.returns-then-not-is_open
returns-then-not-is_open g c =
    let now = sinks (g.W.Sink.told c.args.out.now) (g.W.Sink.told c.args.err.now) in
    subst (λ (b : Bool). Speaks g.W.Sink.tells (applied_line c.args.name.now) c.args.notes.now now now b false) (sym c.if-not-is_open.true) (silent g.W.Sink.tells (applied_line c.args.name.now) c.args.notes.now now)

pub returns-in-Ok : goal.returns-in-Ok
returns-in-Ok g c =
    subst (λ (b : Bool). Speaks g.W.Sink.tells (applied_line c.args.name.now) c.args.notes.now (sinks (g.W.Sink.told c.args.out.now) (g.W.Sink.told c.args.err.now)) (sinks (g.W.Sink.told c.write_applied.new.out) (g.W.Sink.told c.write_applied.new.err)) b true)
    (sym c.if-not-is_open.false) c.in-Ok.ensures

pub returns-in-Err : goal.returns-in-Err
returns-in-Err g c =
    subst (λ (b : Bool). Speaks g.W.Sink.tells (applied_line c.args.name.now) c.args.notes.now (sinks (g.W.Sink.told c.args.out.now) (g.W.Sink.told c.args.err.now)) (sinks (g.W.Sink.told c.write_applied.new.out) (g.W.Sink.told c.write_applied.new.err)) b false)
    (sym c.if-not-is_open.false) c.in-Err.ensures
