use Rattle.std.proofs.Common.{◌≡◌, ◌≤◌, ◌⊎◌, ◌∙◌, inl, inr, Option, Some, None, Err, ap, subst, sym, refl}
use Rattle.net_model.specs.NetData.{NetData}
use Rattle.host_core.specs.HostView.{HasNet}
use Rattle.checkpoint_cell.specs.Cell.{applying, cell_of}
use Rattle.checkpoint_cell.specs.Steps.{NoneOr}
use Rattle.engine_model.specs.Sound.{Sound}
use Rattle.engine_model.specs.Stations.{Only, Kept, Ends}
use Rattle.checkpoint_cell.specs.Settled.{restored_to}
use Rattle.engine_model.specs.Compared.{NoneWaits}
use Rattle.engine_model.proofs.lemmas.Comparing.{none_or_waits, same_cell_waits}
use Rattle.engine_model.proofs.lemmas.Leading.{run_kept, cell_kept, kept_on, ends_cell}
use Rattle.engine_model.proofs.lemmas.Restores.{held, ends_held}
use Rattle.engine_core.proofs.Attempts.{putting, filled}
use Rattle.host_core.specs.HostView.{Kernel, NoneRefused}
use Rattle.engine_core.specs.Saying.{Start, Follows, IsOpen}
use Rattle.engine_core.proofs.Calms.{calm_on, calm_runs}
use Rattle.engine_model.proofs.lemmas.Refusals.{quiet_same, quiet_on, refused_after, once_after}
use Rattle.host_core.proofs.lemmas.Counts.{rose_after}
use Rattle.engine_core.proofs.Says.{open_as}
use Rattle.engine_core.proofs.Apart.{later_on, done_failed, failed_differs, refused_differs, memory_differs, refused_failed, memory_failed}
use Rattle.engine_core.proofs.attempting.begin.Goals as goal
use Rattle.engine_core.proofs.attempting.begin.Goals.{After-put, After-run}

fresh_first : (old mid new : Option NetData) → mid ≡ old → (new ≡ mid) ⊎ (new ≡ None) → (new ≡ old) ⊎ (new ≡ None)
fresh_first old mid new same (inl is) = inl (is ∙ same)
fresh_first old mid new same (inr none) = inr none

stored : (g : _) (c : After-put g) → g.H.Host.honest → Sound (g.H.Host.told c.args.host.now) → Ends (restored_to c.args.from.now) (g.H.Host.told c.args.host.now) → Kept (Only (restored_to c.args.from.now)) (g.H.Host.told c.args.host.now) (g.H.Host.told c.put.new.host)
stored g c honest sound ends =
    let tells = g.met.H.Host.honest_tells honest in
    let old = g.H.Host.told c.args.host.now in
    cell_kept (Only (restored_to c.args.from.now)) c.args.from.now None (NoneOr (applying c.args.made c.args.deadline c.args.from.now)) old (g.H.Host.told c.put.new.host) ends sound
    (c.put.ensures.stops tells (filled c.args.from.now old ((g.met.H.Host.lawful c.args.host.now).reads tells) sound ends)) (putting c.args.made c.args.deadline c.args.from.now)

ran : (g : _) (c : After-run g) → g.H.Host.honest → Sound (g.H.Host.told c.args.host.now) → Ends (restored_to c.args.from.now) (g.H.Host.told c.args.host.now) → Kept (Only (restored_to c.args.from.now)) (g.H.Host.told c.args.host.now) (g.H.Host.told c.run.new.host)
ran g c honest sound ends =
    let tells = g.met.H.Host.honest_tells honest in
    let old = g.H.Host.told c.args.host.now in
    let mid = g.H.Host.told c.put.new.host in
    let from = c.args.from.now in
    let first = stored g (goal.at.After-run g c).After-put honest sound ends in
    let there = ends_cell from None (Some (applying c.args.made c.args.deadline from)) old mid ends c.put.ensures.stops_net (c.in-Ok.ensures.put tells) in
    kept_on (Only (restored_to from)) old mid (g.H.Host.told c.run.new.host) first
    (run_kept (Only (restored_to from)) c.args.made c.args.deadline from from mid (g.H.Host.told c.run.new.host) refl there first.sound refl c.laws.ensures.net (c.run.ensures.stops honest))

held_cell : (g : _) (c : After-run g) → g.H.Host.tells → cell_of (g.H.Host.told c.run.new.host).state.cell ≡ Some (applying c.args.made c.args.deadline c.args.from.now)
held_cell g c tells = ap cell_of (c.run.ensures.cell tells) ∙ (c.in-Ok.ensures.put tells).cell

is_open : (g : _) (c : After-run g) → g.H.Host.tells → IsOpen (g.H.Host.told c.run.new.host)
is_open g c tells = open_as (g.H.Host.told c.run.new.host) c.args.made c.args.deadline c.args.from.now (held_cell g c tells)

unrefused : (g : _) (c : After-put g) → NoneRefused (g.H.Host.told c.args.host.now).kernel (g.H.Host.told c.put.new.host).kernel
unrefused g c = quiet_same (g.H.Host.told c.args.host.now).kernel (g.H.Host.told c.put.new.host).kernel c.put.ensures.kernel.kernel

since_start : (g : _) (c : After-put g) (start : Start) → Follows start (g.H.Host.told c.args.host.now) → NoneRefused start.kernel (g.H.Host.told c.put.new.host).kernel
since_start g c start follows = quiet_on start.kernel (g.H.Host.told c.args.host.now).kernel (g.H.Host.told c.put.new.host).kernel follows.quiet (unrefused g c)

moment : (g : _) (c : After-run g) → (g.H.Host.told c.args.host.now).stops.moment ≤ (g.H.Host.told c.run.new.host).stops.moment
moment g c = later_on (g.H.Host.told c.args.host.now).stops.moment (g.H.Host.told c.put.new.host).stops.moment (g.H.Host.told c.run.new.host).stops.moment c.put.ensures.stops_net.later c.run.ensures.stops_cell.later

later : (g : _) (c : After-run g) → (g.H.Host.told c.args.host.now).faults ≤ (g.H.Host.told c.run.new.host).faults
later g c = later_on (g.H.Host.told c.args.host.now).faults (g.H.Host.told c.put.new.host).faults (g.H.Host.told c.run.new.host).faults c.put.ensures.cause.later c.run.ensures.cause.later

never_unset : (g : _) (c : After-run g) → g.H.Host.tells → cell_of (g.H.Host.told c.run.new.host).state.cell ≡ None → ⊥
never_unset g c tells none = let e : Some (applying c.args.made c.args.deadline c.args.from.now) ≡ None = sym (held_cell g c tells) ∙ none in cc

-- the checkpoint is none, or that of a change that is being made
put_unmarked : (g : _) (c : After-put g) → g.H.Host.honest → Sound (g.H.Host.told c.args.host.now) → Ends (restored_to c.args.from.now) (g.H.Host.told c.args.host.now) → NoneWaits (g.H.Host.told c.put.new.host)
put_unmarked g c honest sound ends =
    let tells = g.met.H.Host.honest_tells honest in
    let old = g.H.Host.told c.args.host.now in
    none_or_waits (applying c.args.made c.args.deadline c.args.from.now) refl old (g.H.Host.told c.put.new.host) (c.put.ensures.stops tells (filled c.args.from.now old ((g.met.H.Host.lawful c.args.host.now).reads tells) sound ends))

run_unmarked : (g : _) (c : After-run g) → g.H.Host.honest → Sound (g.H.Host.told c.args.host.now) → Ends (restored_to c.args.from.now) (g.H.Host.told c.args.host.now) → NoneWaits (g.H.Host.told c.run.new.host)
run_unmarked g c honest sound ends = same_cell_waits (g.H.Host.told c.put.new.host) (g.H.Host.told c.run.new.host) c.run.ensures.stops_cell (put_unmarked g (goal.at.After-run g c).After-put honest sound ends)

-- ---- the checkpoint wasn't put

pub returns-in-Err-Failed : goal.returns-in-Err-Failed
returns-in-Err-Failed g c =
    let at = (goal.at.returns-in-Err-Failed g c).After-put in
    let old = g.H.Host.told c.args.host.now in
    let new = g.H.Host.told c.put.new.host in
    let rose = c.in-Err-Failed.ensures.cause.failed (ap (λ e. Err e) c.in-Err-Failed.field-0-is) in
    record {
      set = λ tells. tt;
      kept = λ honest sound ends. stored g at honest sound ends;
      reached = λ honest to is runs. tt;
      missed = λ honest to is runs. tt;
      calm = λ honest to t le is plan calm. tt;
      fault = λ is. rose;
      fresh = λ tells. tt;
      unset = λ tells none. (c.put.ensures.kernel.net tells, c.put.ensures.kernel.kernel);
      says = λ doc start follows calls. (since_start g at start follows, rose_after start.faults old.faults new.faults follows.faults rose);
      quiet = tt;
      compared = λ found is. failed_differs found is;
      unmarked = λ honest sound ends. put_unmarked g at honest sound ends;
      moment = c.put.ensures.stops_net.later;
      later = c.put.ensures.cause.later;
    }

pub returns-in-Err-OutOfMemory : goal.returns-in-Err-OutOfMemory
returns-in-Err-OutOfMemory g c =
    let at = (goal.at.returns-in-Err-OutOfMemory g c).After-put in
    record {
      set = λ tells. tt;
      kept = λ honest sound ends. stored g at honest sound ends;
      reached = λ honest to is runs. tt;
      missed = λ honest to is runs. tt;
      calm = λ honest to t le is plan calm. tt;
      fault = λ is. absurd (memory_failed is);
      fresh = λ tells. tt;
      unset = λ tells none. (c.put.ensures.kernel.net tells, c.put.ensures.kernel.kernel);
      says = λ doc start follows calls. (
        since_start g at start follows,
        λ tells. inl (ap cell_of ((c.in-Err-OutOfMemory.ensures.memory (ap (λ e. Err e) c.in-Err-OutOfMemory.field-0-is)).cell tells) ∙ (c.requires.none tells).cell),
      );
      quiet = tt;
      compared = λ found is. memory_differs found is;
      unmarked = λ honest sound ends. put_unmarked g at honest sound ends;
      moment = c.put.ensures.stops_net.later;
      later = c.put.ensures.cause.later;
    }

-- ---- the calls

pub returns-in-Err-Refused : goal.returns-in-Err-Refused
returns-in-Err-Refused g c =
    let at = (goal.at.returns-in-Err-Refused g c).After-run in
    let mid = (g.H.Host.told c.put.new.host).kernel in
    let new = (g.H.Host.told c.run.new.host).kernel in
    let refused = ap (λ e. Err e) c.in-Err-Refused.field-0-is in
    record {
      set = λ tells. tt;
      kept = λ honest sound ends. ran g at honest sound ends;
      reached = λ honest to is runs. tt;
      missed = λ honest to is runs. c.in-Err-Refused.ensures.accepted honest c.args.from.now to (c.put.ensures.kernel.net (g.met.H.Host.honest_tells honest) ∙ is) runs _ _ refused;
      calm = λ honest to t le is plan calm. tt;
      fault = λ is. absurd (refused_failed _ _ is);
      fresh = λ tells. tt;
      unset = λ tells none. absurd (never_unset g at tells none);
      says = λ doc start follows calls.
          let quiet = since_start g (goal.at.After-run g at).After-put start follows in (
            refused_after _ _ start.kernel mid new quiet (c.in-Err-Refused.ensures.refused _ _ refused (ap (λ (k : Kernel). k.calls) c.put.ensures.kernel.kernel ∙ calls)),
            once_after start.kernel mid new quiet (c.in-Err-Refused.ensures.once _ _ refused),
            λ tells. is_open g at tells,
          );
      quiet = tt;
      compared = λ found is. refused_differs _ _ found is;
      unmarked = λ honest sound ends. run_unmarked g at honest sound ends;
      moment = moment g at;
      later = later g at;
    }

pub returns-in-Err-Failed-run : goal.returns-in-Err-Failed-run
returns-in-Err-Failed-run g c =
    let at = (goal.at.returns-in-Err-Failed-run g c).After-run in
    let old = g.H.Host.told c.args.host.now in
    let mid = g.H.Host.told c.put.new.host in
    let new = g.H.Host.told c.run.new.host in
    let rose = c.in-Err-Failed-run.ensures.cause.failed (ap (λ e. Err e) c.in-Err-Failed-run.field-0-is) in
    record {
      set = λ tells. tt;
      kept = λ honest sound ends. ran g at honest sound ends;
      reached = λ honest to is runs. tt;
      missed = λ honest to is runs. tt;
      calm = λ honest to t le is plan calm. tt;
      fault = λ is. rose_after old.faults mid.faults new.faults c.put.ensures.cause.later rose;
      fresh = λ tells. tt;
      unset = λ tells none. absurd (never_unset g at tells none);
      says = λ doc start follows calls. (
        quiet_on start.kernel mid.kernel new.kernel (since_start g (goal.at.After-run g at).After-put start follows) (c.in-Err-Failed-run.ensures.quiet (λ k n is. cc)),
        rose_after start.faults mid.faults new.faults (later_on start.faults old.faults mid.faults follows.faults c.put.ensures.cause.later) rose,
      );
      quiet = tt;
      compared = λ found is. failed_differs found is;
      unmarked = λ honest sound ends. run_unmarked g at honest sound ends;
      moment = moment g at;
      later = later g at;
    }

pub returns-in-Err-OutOfMemory-run : goal.returns-in-Err-OutOfMemory-run
returns-in-Err-OutOfMemory-run g c =
    let at = (goal.at.returns-in-Err-OutOfMemory-run g c).After-run in
    let mid = (g.H.Host.told c.put.new.host).kernel in
    let new = (g.H.Host.told c.run.new.host).kernel in
    record {
      set = λ tells. tt;
      kept = λ honest sound ends. ran g at honest sound ends;
      reached = λ honest to is runs. tt;
      missed = λ honest to is runs. tt;
      calm = λ honest to t le is plan calm. tt;
      fault = λ is. absurd (memory_failed is);
      fresh = λ tells. tt;
      unset = λ tells none. absurd (never_unset g at tells none);
      says = λ doc start follows calls. (
        quiet_on start.kernel mid new (since_start g (goal.at.After-run g at).After-put start follows) (c.in-Err-OutOfMemory-run.ensures.quiet (λ k n is. cc)),
        λ tells. inr (is_open g at tells),
      );
      quiet = tt;
      compared = λ found is. memory_differs found is;
      unmarked = λ honest sound ends. run_unmarked g at honest sound ends;
      moment = moment g at;
      later = later g at;
    }

pub returns-in-Ok-run : goal.returns-in-Ok-run
returns-in-Ok-run g c =
    let at = (goal.at.returns-in-Ok-run g c).After-run in
    let old = g.H.Host.told c.args.host.now in
    let mid = g.H.Host.told c.put.new.host in
    let new = g.H.Host.told c.run.new.host in
    let from = c.args.from.now in
    record {
      set = λ tells. held _ mid new (c.in-Ok.ensures.put tells) c.run.ensures.stops_cell (c.run.ensures.cell tells);
      kept = λ honest sound ends. ran g at honest sound ends;
      reached = λ honest to is runs.
          let tells = g.met.H.Host.honest_tells honest in
          let reached = c.in-Ok-run.ensures.reached honest from to (c.put.ensures.kernel.net tells ∙ is) runs in
          let nets : HasNet (Some to) new = subst (λ (n : Option NetData). HasNet n new) reached ((g.met.H.Host.lawful c.run.new.host).no_doubt tells c.in-Ok-run.ensures.settled) in
          (reached, ends_held to _ new nets (held _ mid new (c.in-Ok.ensures.put tells) c.run.ensures.stops_cell (c.run.ensures.cell tells)));
      missed = λ honest to is runs. tt;
      calm = λ honest to t le is plan calm.
          let tells = g.met.H.Host.honest_tells honest in
          let here : mid.state.net ≡ Some from = c.put.ensures.kernel.net tells ∙ is in
          let nets : HasNet (Some from) mid = subst (λ (n : Option NetData). HasNet n mid) here ((g.met.H.Host.lawful c.put.new.host).no_doubt tells (c.put.ensures.kernel.settled c.requires.settled)) in
          calm_runs from to t mid new (g.met.H.Host.lawful c.put.new.host).stops (later_on t old.stops.moment mid.stops.moment le c.put.ensures.stops_net.later)
          (calm_on from to t old mid (g.met.H.Host.lawful c.args.host.now).stops le calm c.put.ensures.stops_net) c.args.calls.now plan nets (c.run.ensures.fronts honest from to here plan.run);
      fault = λ is. absurd (done_failed _ _ is);
      fresh = λ tells. fresh_first old.fresh mid.fresh new.fresh (c.put.ensures.kernel.fresh tells) (c.run.ensures.fresh tells);
      unset = λ tells. tt;
      says = λ doc start follows calls. tt;
      quiet = quiet_on old.kernel mid.kernel new.kernel (unrefused g (goal.at.After-run g at).After-put) (c.in-Ok-run.ensures.quiet (λ k n is. cc));
      compared = λ found is. done_failed _ _ is;
      unmarked = λ honest sound ends. run_unmarked g at honest sound ends;
      moment = moment g at;
      later = later g at;
    }
