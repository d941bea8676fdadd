use Rattle.std.proofs.Common.{ap, subst, Err}
use Rattle.std.specs.Prelude.{IfOk, IfErr}
use Rattle.std.proofs.lemmas.Result.{IfOk-weaker, IfErr-weaker}
use Rattle.net_model.specs.NetData.{NetData}
use Rattle.merge_model.specs.MergedNet.{merge}
use Rattle.scenario_model.specs.Counts.{IsPlanned, HasPlan}
use Rattle.scenario_model.specs.Saying.{StepSays, past_of}
use Rattle.scenario_model.specs.Answering.{StepAnswers}
use Rattle.scenario.specs.Stages.{NoPlan}
use Rattle.scenario.proofs.Says.{no_plan_says, dump_says}
use Rattle.scenario.proofs.Answers.{same_found, no_plan_answers, dump_answers}
use Rattle.host_core.specs.HostView.{Kernel}
use Rattle.scenario.proofs.planning.count_calls.Goals as goal

pub returns-in-Ok-clause-plan : goal.returns-in-Ok-clause-plan
returns-in-Ok-clause-plan g c =
    IfOk-weaker c.calls_from.result (λ count. (to : NetData) × IsPlanned c.args.doc.now c.in-Ok.from to count) (HasPlan c.args.doc.now) (λ count p. record { from = c.in-Ok.from; to = p.0; planned = p.1 }) c.calls_from.ensures.counts

pub returns-in-Ok-clause-counts : goal.returns-in-Ok-clause-counts
returns-in-Ok-clause-counts g c = λ h from found.
    subst (λ (n : NetData). IfOk c.calls_from.result (λ count. (to : NetData) × IsPlanned c.args.doc.now n to count)) (same_found c.in-Ok.from from (g.H.Host.told c.args.host.now).state.net (c.in-Ok.ensures.net h) found) c.calls_from.ensures.counts

pub returns-in-Ok-clause-says : goal.returns-in-Ok-clause-says
returns-in-Ok-clause-says g c = λ first second is.
    let old = g.H.Host.told c.args.host.now in
    let new = g.H.Host.told c.dump.new.self in
    IfErr-weaker c.calls_from.result (NoPlan c.args.doc.now c.in-Ok.from) (StepSays g.H.Host.tells first second (past_of old) new)
    (no_plan_says g.H.Host.tells first second c.args.doc.now is c.in-Ok.from (past_of old) new c.in-Ok.ensures.fresh) c.calls_from.ensures.fails

pub returns-in-Ok-clause-answer : goal.returns-in-Ok-clause-answer
returns-in-Ok-clause-answer g c = λ h from found.
    let old = g.H.Host.told c.args.host.now in
    let new = g.H.Host.told c.dump.new.self in
    subst (λ (n : NetData). IfErr c.calls_from.result (StepAnswers (merge n c.args.doc.now) old.faults new)) (same_found c.in-Ok.from from old.state.net (c.in-Ok.ensures.net h) found)
    (IfErr-weaker c.calls_from.result (NoPlan c.args.doc.now c.in-Ok.from) (StepAnswers (merge c.in-Ok.from c.args.doc.now) old.faults new)
    (no_plan_answers c.args.doc.now c.in-Ok.from old.faults new) c.calls_from.ensures.fails)

pub returns-in-Err-clause-says : goal.returns-in-Err-clause-says
returns-in-Err-clause-says g c = λ first second is.
    dump_says g.H.Host.tells first second (g.H.Host.told c.args.host.now) (g.H.Host.told c.dump.new.self) c.in-Err.fault
    (λ e. c.in-Err.ensures.cause.failed (ap (λ f. Err f) e)) (λ t e. c.in-Err.ensures.damaged t (ap (λ f. Err f) e)) c.in-Err.ensures.state

pub returns-in-Err-clause-answer : goal.returns-in-Err-clause-answer
returns-in-Err-clause-answer g c = λ h from found.
    dump_answers (merge from c.args.doc.now) from (g.H.Host.told c.args.host.now) (g.H.Host.told c.dump.new.self) c.in-Err.fault found
    (λ e. c.in-Err.ensures.cause.failed (ap (λ f. Err f) e)) (λ e. c.in-Err.ensures.damaged (g.met.H.Host.honest_tells h) (ap (λ f. Err f) e))

pub returns-in-Ok-clause-follows : goal.returns-in-Ok-clause-follows
returns-in-Ok-clause-follows g c = record { faults = c.dump.ensures.cause.later; quiet = record { refusals = ap (λ (k : Kernel). k.refusals) c.in-Ok.ensures.calls; last = ap (λ (k : Kernel). k.last) c.in-Ok.ensures.calls }; moment = λ told. c.dump.ensures.stops.later }

pub returns-in-Err-clause-follows : goal.returns-in-Err-clause-follows
returns-in-Err-clause-follows g c = record { faults = c.dump.ensures.cause.later; quiet = record { refusals = ap (λ (k : Kernel). k.refusals) c.in-Err.ensures.kernel; last = ap (λ (k : Kernel). k.last) c.in-Err.ensures.kernel }; moment = λ told. c.dump.ensures.stops.later }
