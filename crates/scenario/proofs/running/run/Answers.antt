use Rattle.std.proofs.Common.{inl, refl}
use Rattle.checkpoint_cell.specs.Settled.{restored_to}
use Rattle.scenario.proofs.Says.{run_says_from}
use Rattle.scenario.proofs.Answers.{run_answers_from, first_refuses, reads_net, at_stays}
use Rattle.scenario.proofs.running.run.Goals as goal

pub returns-in-Ok-clause-says : goal.returns-in-Ok-clause-says
returns-in-Ok-clause-says g c =
    run_says_from g.H.Host.tells c.args.first.now c.args.second.now _ _ c.in-Ok.ensures.follows (g.H.Host.told c.try_first.new.host) c.try_first.result (c.try_first.ensures.says c.in-Ok.ensures.plan)

pub returns-in-Ok-clause-answer : goal.returns-in-Ok-clause-answer
returns-in-Ok-clause-answer g c = λ h from at.
    let old = g.H.Host.told c.args.host.now in
    let mid = g.H.Host.told c.count_calls.new.host in
    let planned = c.in-Ok.ensures.counts h from (reads_net from old at.reads) in
    let there = at_stays (restored_to from) old mid c.in-Ok.ensures.stops (c.in-Ok.ensures.state (g.met.H.Host.honest_tells h)) at in
    run_answers_from from c.args.first.now c.args.second.now _ _ c.in-Ok.ensures.later (g.H.Host.told c.try_first.new.host) c.try_first.result (c.try_first.ensures.answer h from planned.0 planned.1 there)

pub returns-in-Err-clause-says : goal.returns-in-Err-clause-says
returns-in-Err-clause-says g c = c.in-Err.ensures.says c.args.first.now c.args.second.now (inl refl)

pub returns-in-Err-clause-answer : goal.returns-in-Err-clause-answer
returns-in-Err-clause-answer g c = λ h from at.
    let old = g.H.Host.told c.args.host.now in
    first_refuses from c.args.first.now c.args.second.now old.faults (g.H.Host.told c.count_calls.new.host) c.in-Err.fault (c.in-Err.ensures.answer h from (reads_net from old at.reads))
