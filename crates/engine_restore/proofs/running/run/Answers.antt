use Rattle.std.proofs.Common.{◌≡◌, ◌≤◌, ◌∙◌, inr, ℕ, Result, Err, Ok, Some, refl, sym, ap, arith, Option, subst, List, [], length}
use Rattle.std.specs.Prelude.{⊤}
use Rattle.host_core.proofs.lemmas.Counts.{rose_after}
use Rattle.host_core.specs.declared.host.CallFault.{CallFault}
use Rattle.host_core.specs.declared.host.CallFault.TheVariants.{Refused, Failed, OutOfMemory}
use Rattle.net_model.specs.NetData.{NetData}
use Rattle.net_model.specs.declared.Call.{Call}
use Rattle.kernel_model.specs.Runs.{Runs}
use Rattle.host_core.specs.Stops.{Steps}
use Rattle.host_core.specs.HostView.{SameCell, HasNet}
use Rattle.host_core.proofs.lemmas.Moments.{follow, weaken}
use Rattle.host_core.specs.HostView.{MaybeCalled, Kernel, NoneRefused, counted}
use Rattle.host_core.specs.Faults.{one_more}
use Rattle.engine_model.specs.Stations.{RunStep, FrontStep}
use Rattle.engine_restore.specs.declared.running.RunFault.{RunFault}
use Rattle.engine_restore.specs.declared.running.RunFault.TheVariants as ru
use Rattle.engine_restore.proofs.Apart.{done_failed}
use Rattle.engine_restore.proofs.Readies.{later_on}
use Rattle.engine_restore.proofs.Runs.{run_next, run_taken, called, run_on, run_further, front_on, run_ended}
use Rattle.engine_restore.proofs.running.run.Goals as goal
use Rattle.engine_restore.proofs.running.run.Goals.{After-call}

abbrev stopped : RunFault → Result ⊤ RunFault
stopped fault = Err fault

abbrev call_stopped : CallFault → Result ⊤ CallFault
call_stopped fault = Err fault

failed_refused : (k n : ℕ) → stopped ru.Failed ≡ stopped (ru.Refused k n) → ⊥
failed_refused k n is = let e : stopped ru.Failed ≡ stopped (ru.Refused k n) = is in cc

memory_refused : (k n : ℕ) → stopped ru.OutOfMemory ≡ stopped (ru.Refused k n) → ⊥
memory_refused k n is = let e : stopped ru.OutOfMemory ≡ stopped (ru.Refused k n) = is in cc

memory_failed : stopped ru.OutOfMemory ≡ stopped ru.Failed → ⊥
memory_failed is = let e : stopped ru.OutOfMemory ≡ stopped ru.Failed = is in cc

call_failed : (k : ℕ) → call_stopped Failed ≡ call_stopped (Refused k) → ⊥
call_failed k is = let e : call_stopped Failed ≡ call_stopped (Refused k) = is in cc

call_memory : (k : ℕ) → call_stopped OutOfMemory ≡ call_stopped (Refused k) → ⊥
call_memory k is = let e : call_stopped OutOfMemory ≡ call_stopped (Refused k) = is in cc

further : (g : _) (c : After-call g) → g.H.Host.honest → (from to : NetData) → (g.H.Host.told c.args.host.now).state.net ≡ Some from → Runs c.args.calls.now from to
    → Steps (FrontStep c.args.calls.now from) (g.H.Host.told c.args.host.now).stops (g.H.Host.told c.call.new.self).stops
further g c honest from to is runs =
    let there = c.loop-i.invariant.net honest from to is runs in
    let here = g.H.Host.told c.loop-i.host in
    let nets : HasNet (Some there.0) here = subst (λ (n : Option NetData). HasNet n here) there.1 ((g.met.H.Host.lawful c.loop-i.host).no_doubt (g.met.H.Host.honest_tells honest) c.loop-i.invariant.settled) in
    front_on c.step_laws.ensures.runs_on c.args.calls.now c.loop-i.i _ c.index-calls-i.result from there.0 (g.H.Host.told c.args.host.now).stops here.stops (g.H.Host.told c.call.new.self).stops
    c.index-calls-i.is (omega (arith, c.loop-i-test.true)) there.3 nets (c.loop-i.invariant.fronts honest from to is runs) (c.call.ensures.stops honest)

pub returns-in-Err-Refused-clause-fronts : goal.returns-in-Err-Refused-clause-fronts
returns-in-Err-Refused-clause-fronts g c = λ honest from to is runs. further g (goal.at.returns-in-Err-Refused-clause-fronts g c).After-call honest from to is runs

pub returns-in-Err-Refused-clause-accepted : goal.returns-in-Err-Refused-clause-accepted
returns-in-Err-Refused-clause-accepted g c = λ honest from to is runs k n refused.
    let there = c.loop-i.invariant.net honest from to is runs in
    run_taken c.args.calls.now c.loop-i.i _ c.index-calls-i.result there.0 to _ c.index-calls-i.is (omega (arith, c.loop-i-test.true)) there.1 there.2 c.in-Err-Refused.k (c.in-Err-Refused.ensures.refused honest c.in-Err-Refused.k (ap (λ e. Err e) c.in-Err-Refused.field-0-is))

pub returns-in-Err-Refused-clause-quiet : goal.returns-in-Err-Refused-clause-quiet
returns-in-Err-Refused-clause-quiet g c = λ none. absurd (none _ _ refl)

-- ---- what is counted

pub returns-in-Err-Refused-clause-once : goal.returns-in-Err-Refused-clause-once
returns-in-Err-Refused-clause-once g c = λ k n is.
    ap (λ (k : Kernel). k.refusals) (c.in-Err-Refused.ensures.counts c.in-Err-Refused.k (ap (λ e. Err e) c.in-Err-Refused.field-0-is)) ∙ ap one_more c.loop-i.invariant.quiet.refusals

none_left : (g : _) (c : After-call g) → c.args.calls.now ≡ [] → ⊥
none_left g c none = let zero : length c.args.calls.now ≡ 0 = ap (λ (l : List Call). length l) none in let lt = c.loop-i-test.true in absurd (omega (arith, lt, zero))

pub returns-in-Err-Refused-clause-idle : goal.returns-in-Err-Refused-clause-idle
returns-in-Err-Refused-clause-idle g c = λ tells none. absurd (none_left g (goal.at.returns-in-Err-Refused-clause-idle g c).After-call none)

-- ---- what stops leave

cells : (g : _) (c : After-call g) → Steps SameCell (g.H.Host.told c.args.host.now).stops (g.H.Host.told c.call.new.self).stops
cells g c = follow SameCell SameCell SameCell _ _ _ c.loop-i.invariant.stops_cell c.call.ensures.stops_cell (λ r s left same. same) (λ q r s was left one two. two ∙ one)

steps : (g : _) (c : After-call g) → g.H.Host.honest → Steps RunStep (g.H.Host.told c.args.host.now).stops (g.H.Host.told c.call.new.self).stops
steps g c honest = run_on _ _ _ (c.loop-i.invariant.stops honest) (weaken (MaybeCalled _) RunStep _ _ (c.call.ensures.stops honest) (λ r s left step. called c.step_laws.ensures.net c.step_laws.ensures.hardware _ r s step))

pub returns-in-Err-Refused-clause-stops_cell : goal.returns-in-Err-Refused-clause-stops_cell
returns-in-Err-Refused-clause-stops_cell g c = cells g (goal.at.returns-in-Err-Refused-clause-stops_cell g c).After-call

pub returns-in-Err-Refused-clause-stops : goal.returns-in-Err-Refused-clause-stops
returns-in-Err-Refused-clause-stops g c = λ honest. steps g (goal.at.returns-in-Err-Refused-clause-stops g c).After-call honest

-- ---- no call is refused

quiet : (g : _) (c : After-call g) → (g.H.Host.told c.call.new.self).kernel ≡ counted (g.H.Host.told c.loop-i.host).kernel → NoneRefused (g.H.Host.told c.args.host.now).kernel (g.H.Host.told c.call.new.self).kernel
quiet g c counts = record { refusals = ap (λ (k : Kernel). k.refusals) counts ∙ c.loop-i.invariant.quiet.refusals; last = ap (λ (k : Kernel). k.last) counts ∙ c.loop-i.invariant.quiet.last }

later : (g : _) (c : After-call g) → (g.H.Host.told c.args.host.now).faults ≤ (g.H.Host.told c.call.new.self).faults
later g c = later_on (g.H.Host.told c.args.host.now).faults (g.H.Host.told c.loop-i.host).faults (g.H.Host.told c.call.new.self).faults c.loop-i.invariant.later c.call.ensures.cause.later

pub returns-in-Err-Failed : goal.returns-in-Err-Failed
returns-in-Err-Failed g c =
    let at = (goal.at.returns-in-Err-Failed g c).After-call in
    let is = ap (λ e. Err e) c.in-Err-Failed.field-0-is in
    record {
      reached = λ honest from to stands runs. tt;
      accepted = λ honest from to stands runs k n refused. failed_refused k n refused;
      settled = tt;
      cell = λ tells. c.call.ensures.cell tells ∙ c.loop-i.invariant.cell tells;
      stops_cell = cells g at;
      stops = λ honest. steps g at honest;
      fronts = λ honest from to stands runs. further g at honest from to stands runs;
      refused = λ k n refused. absurd (failed_refused k n refused);
      once = λ k n refused. absurd (failed_refused k n refused);
      quiet = λ none. quiet g at (c.in-Err-Failed.ensures.counted (λ k refused. call_failed k (sym is ∙ refused)));
      made = tt;
      fresh = λ tells. inr (c.call.ensures.fresh tells);
      idle = λ tells none. absurd (none_left g at none);
      cause = record {
        later = later g at;
        failed = λ failed. rose_after (g.H.Host.told c.args.host.now).faults (g.H.Host.told c.loop-i.host).faults (g.H.Host.told c.call.new.self).faults c.loop-i.invariant.later (c.in-Err-Failed.ensures.cause.failed is);
      };
    }

pub returns-in-Err-OutOfMemory : goal.returns-in-Err-OutOfMemory
returns-in-Err-OutOfMemory g c =
    let at = (goal.at.returns-in-Err-OutOfMemory g c).After-call in
    let is = ap (λ e. Err e) c.in-Err-OutOfMemory.field-0-is in
    record {
      reached = λ honest from to stands runs. tt;
      accepted = λ honest from to stands runs k n refused. memory_refused k n refused;
      settled = tt;
      cell = λ tells. c.call.ensures.cell tells ∙ c.loop-i.invariant.cell tells;
      stops_cell = cells g at;
      stops = λ honest. steps g at honest;
      fronts = λ honest from to stands runs. further g at honest from to stands runs;
      refused = λ k n refused. absurd (memory_refused k n refused);
      once = λ k n refused. absurd (memory_refused k n refused);
      quiet = λ none. quiet g at (c.in-Err-OutOfMemory.ensures.counted (λ k refused. call_memory k (sym is ∙ refused)));
      made = tt;
      fresh = λ tells. inr (c.call.ensures.fresh tells);
      idle = λ tells none. absurd (none_left g at none);
      cause = record { later = later g at; failed = λ failed. absurd (memory_failed failed) };
    }

-- ---- the next call

pub loop-i-preserved : goal.loop-i-preserved
loop-i-preserved g c =
    let before = g.H.Host.told c.loop-i.host in
    let after = g.H.Host.told c.call.new.self in
    let counts : after.kernel ≡ counted before.kernel = c.in-Ok.ensures.counted (λ k refused. let e : Ok c.in-Ok.field-0 ≡ Err (Refused k) = refused in absurd (cc)) in
    record {
      settled = c.in-Ok.ensures.settled (λ failed. let e : Ok c.in-Ok.field-0 ≡ Err Failed = failed in absurd (cc));
      net = λ honest from to is runs.
          let there = c.loop-i.invariant.net honest from to is runs in
          let next = run_next c.args.calls.now c.loop-i.i _ c.index-calls-i.result there.0 to _ _ c.index-calls-i.is (omega (arith, c.loop-i-test.true)) there.1 there.2 (c.in-Ok.ensures.accepted honest) in
          (next.0, next.1, next.2, run_further c.step_laws.ensures.runs_on c.args.calls.now c.loop-i.i _ c.index-calls-i.result from there.0 next.0 c.index-calls-i.is (omega (arith, c.loop-i-test.true)) there.3 next.3);
      fronts = λ honest from to is runs. further g (goal.at.loop-i-preserved g c).After-call honest from to is runs;
      cell = λ tells. c.call.ensures.cell tells ∙ c.loop-i.invariant.cell tells;
      stops_cell = follow SameCell SameCell SameCell _ _ _ c.loop-i.invariant.stops_cell c.call.ensures.stops_cell (λ r s left same. same) (λ q r s was left one two. two ∙ one);
      stops = λ honest. run_on _ _ _ (c.loop-i.invariant.stops honest) (weaken (MaybeCalled _) RunStep _ _ (c.call.ensures.stops honest) (λ r s left step. called c.step_laws.ensures.net c.step_laws.ensures.hardware _ r s step));
      quiet = record { refusals = ap (λ (k : Kernel). k.refusals) counts ∙ c.loop-i.invariant.quiet.refusals; last = ap (λ (k : Kernel). k.last) counts ∙ c.loop-i.invariant.quiet.last };
      calls = λ zero. let is : before.kernel.calls ≡ c.loop-i.i = c.loop-i.invariant.calls zero in let more : after.kernel.calls ≡ one_more before.kernel.calls = ap (λ (k : Kernel). k.calls) counts in omega (arith, is, more);
      fresh = λ tells. inr (c.call.ensures.fresh tells);
      idle = λ tells none. absurd (omega (arith, none));
      later = omega (arith, c.loop-i.invariant.later, c.call.ensures.cause.later);
    }

-- ---- all calls are made

pub returns : goal.returns
returns g c =
    let here = c.loop-i.invariant in
    let end : length c.args.calls.now ≤ c.loop-i.i = omega (arith, c.loop-i-test.false) in
    record {
      reached = λ honest from to is runs. let there = here.net honest from to is runs in there.1 ∙ ap (λ (n : NetData). Some n) (sym (run_ended c.args.calls.now c.loop-i.i there.0 to end there.2));
      accepted = λ honest from to is runs k n refused. done_failed _ _ refused;
      settled = here.settled;
      cell = here.cell;
      stops_cell = here.stops_cell;
      stops = here.stops;
      fronts = here.fronts;
      refused = λ k n refused. absurd (done_failed _ _ refused);
      once = λ k n refused. absurd (done_failed _ _ refused);
      quiet = λ none. here.quiet;
      made = λ zero. let is = here.calls zero in omega (arith, is, end);
      fresh = here.fresh;
      idle = λ tells none. let zero : length c.args.calls.now ≡ 0 = ap (λ (l : List Call). length l) none in here.idle tells (omega (arith, zero));
      cause = record { later = here.later; failed = λ failed. absurd (done_failed _ _ failed) };
    }
