use Rattle.std.proofs.Common.{◌≡◌, ◌∙◌, sym, ap, subst, Err}
use Rattle.net_model.specs.NetData.{NetData}
use Rattle.checkpoint_cell.specs.Settled.{standing}
use Rattle.scenario_model.specs.Asking.{both_merged}
use Rattle.scenario_model.specs.Counts.{CountsOf, IsPlanned, HasPlan}
use Rattle.scenario.proofs.Says.{dump_says}
use Rattle.scenario.proofs.Answers.{same_net, reads_net, dump_answers}
use Rattle.scenario.proofs.running.summarize.Goals as goal

pub returns-in-Ok-clause-says : goal.returns-in-Ok-clause-says
returns-in-Ok-clause-says g c = λ first second one two. record {
  net = c.in-Ok.last;
  dumped = c.in-Ok.ensures.fresh;
  counts = c.summary_of.ensures.counts;
  first_plan = subst (HasPlan first) (sym c.summary_of.ensures.first) one;
  second_plan = subst (HasPlan second) (sym c.summary_of.ensures.second) two;
}

pub returns-in-Ok-clause-answer : goal.returns-in-Ok-clause-answer
returns-in-Ok-clause-answer g c = λ h first second from middle last one two at. record {
  middle = middle;
  last = last;
  first_plan = subst (IsPlanned first from middle) (sym c.summary_of.ensures.first) one;
  second_plan = subst (IsPlanned second middle last) (sym c.summary_of.ensures.second) two;
  counts = subst (λ (n : NetData). CountsOf n c.summary_of.result) (same_net c.in-Ok.last last (g.H.Host.told c.args.host.now) (c.in-Ok.ensures.net h) at.reads) c.summary_of.ensures.counts;
  stands = ap standing (c.dump.ensures.state (g.met.H.Host.honest_tells h)) ∙ at.reads;
}

pub returns-in-Err-clause-says : goal.returns-in-Err-clause-says
returns-in-Err-clause-says g c = λ first second one two.
    dump_says g.H.Host.tells first second (g.H.Host.told c.args.host.now) (g.H.Host.told c.dump.new.self) c.in-Err.fault
    (λ e. c.in-Err.ensures.cause.failed (ap (λ f. Err f) e)) (λ t e. c.in-Err.ensures.damaged t (ap (λ f. Err f) e)) c.in-Err.ensures.state

pub returns-in-Err-clause-answer : goal.returns-in-Err-clause-answer
returns-in-Err-clause-answer g c = λ h first second from middle last one two at.
    dump_answers (both_merged from first second) last (g.H.Host.told c.args.host.now) (g.H.Host.told c.dump.new.self) c.in-Err.fault (reads_net last (g.H.Host.told c.args.host.now) at.reads)
    (λ e. c.in-Err.ensures.cause.failed (ap (λ f. Err f) e)) (λ e. c.in-Err.ensures.damaged (g.met.H.Host.honest_tells h) (ap (λ f. Err f) e))
