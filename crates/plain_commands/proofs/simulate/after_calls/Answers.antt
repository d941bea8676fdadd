use Rattle.std.proofs.Common.{◌∙◌, Err, sym, ap, arith}
use Rattle.command_laws.proofs.lemmas.Simulates.{accepted_next, refused_next, none_left}
use Rattle.plain_commands.proofs.simulate.after_calls.Goals as goal

pub loop-i-preserved : goal.loop-i-preserved
loop-i-preserved c =
    sym (accepted_next c.args.calls.now c.loop-i.i _ c.index-calls-i.result c.loop-i.net c.step.new.net c.index-calls-i.is (omega (arith, c.loop-i-test.true)) c.in-Ok.ensures.done)
    ∙ c.loop-i.invariant

pub returns-in-Err-Refused : goal.returns-in-Err-Refused
returns-in-Err-Refused c =
    rw c.in-Err-Refused.field-0-is
    (sym c.loop-i.invariant
    ∙ refused_next c.args.calls.now c.loop-i.i _ c.index-calls-i.result c.in-Err-Refused.number c.loop-i.net c.index-calls-i.is (omega (arith, c.loop-i-test.true))
    (c.in-Err-Refused.ensures.refused c.in-Err-Refused.number (ap (λ e. Err e) c.in-Err-Refused.field-0-is)))

pub returns : goal.returns
returns c = sym c.loop-i.invariant ∙ none_left c.args.calls.now c.loop-i.i c.loop-i.net (omega (arith, c.loop-i-test.false))
