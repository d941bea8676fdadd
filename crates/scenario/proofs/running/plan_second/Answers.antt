use Rattle.std.proofs.Common.{inr, refl}
use Rattle.checkpoint_cell.specs.Settled.{restored_to}
use Rattle.scenario.proofs.Says.{run_says_from}
use Rattle.scenario.proofs.Answers.{run_answers_from, second_refuses, reads_net, at_stays}
use Rattle.scenario.proofs.running.plan_second.Goals as goal

pub returns-in-Ok-clause-says : goal.returns-in-Ok-clause-says
returns-in-Ok-clause-says g c = λ first one.
    run_says_from g.H.Host.tells first c.args.second.now _ _ c.in-Ok.ensures.follows (g.H.Host.told c.apply_second.new.host) c.apply_second.result (c.apply_second.ensures.says first one c.in-Ok.ensures.plan)

pub returns-in-Ok-clause-answer : goal.returns-in-Ok-clause-answer
returns-in-Ok-clause-answer g c = λ h first from middle one at.
    let old = g.H.Host.told c.args.host.now in
    let mid = g.H.Host.told c.count_calls.new.host in
    let planned = c.in-Ok.ensures.counts h middle (reads_net middle old at.reads) in
    let there = at_stays (restored_to middle) old mid c.in-Ok.ensures.stops (c.in-Ok.ensures.state (g.met.H.Host.honest_tells h)) at in
    run_answers_from from first c.args.second.now _ _ c.in-Ok.ensures.later (g.H.Host.told c.apply_second.new.host) c.apply_second.result (c.apply_second.ensures.answer h first from middle planned.0 one planned.1 there)

pub returns-in-Err-clause-says : goal.returns-in-Err-clause-says
returns-in-Err-clause-says g c = λ first one. c.in-Err.ensures.says first c.args.second.now (inr refl)

pub returns-in-Err-clause-answer : goal.returns-in-Err-clause-answer
returns-in-Err-clause-answer g c = λ h first from middle one at.
    let old = g.H.Host.told c.args.host.now in
    second_refuses from middle first c.args.second.now old.faults (g.H.Host.told c.count_calls.new.host) c.in-Err.fault one.merges (c.in-Err.ensures.answer h middle (reads_net middle old at.reads))
