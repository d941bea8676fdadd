use Rattle.std.proofs.Common.{◌≡◌, ◌∙◌, inl, List, Option, Some, Err, refl, sym, ap, subst}
use Rattle.std.specs.Prelude.{IsSome}
use Rattle.std.proofs.lemmas.Result.{on_ok_weaker}
use Rattle.net_model.specs.NetData.{NetData}
use Rattle.net_model.specs.declared.Call.{Call}
use Rattle.kernel_model.specs.Runs.{Runs}
use Rattle.host_core.proofs.lemmas.Counts.{rose_after}
use Rattle.host_core.specs.HostView.{State, Kernel, HasNet}
use Rattle.checkpoint_cell.specs.declared.Phase.TheVariants.{Applying}
use Rattle.checkpoint_cell.specs.Cell.{Checkpoint, in_phase, applying, saved_net}
use Rattle.checkpoint_cell.specs.Settled.{restored_to}
use Rattle.checkpoint_cell.specs.Steps.{Holds}
use Rattle.checkpoint_cell.proofs.lemmas.Saved.{saved_is}
use Rattle.engine_model.specs.Faults.{HasOpen, StillOpen}
use Rattle.engine_model.specs.Machine.{saved_on}
use Rattle.engine_model.specs.Answers.{IsHealthy}
use Rattle.engine_model.specs.Refusals.{NoCallMade}
use Rattle.engine_model.specs.Sound.{Sound}
use Rattle.engine_model.specs.Stations.{Only, Kept, Ends}
use Rattle.engine_model.specs.Undone.{stand}
use Rattle.engine_model.specs.declared.answers.BackFault.{BackFault}
use Rattle.engine_model.specs.declared.answers.BackFault.TheVariants.{NoCheckpoint}
use Rattle.engine_model.proofs.lemmas.Failing.{fails_late, fails_set}
use Rattle.engine_model.proofs.lemmas.Finding.{finds_done}
use Rattle.engine_model.specs.Compared.{NoneWaits}
use Rattle.engine_model.proofs.lemmas.Comparing.{waits_stays, waits_on, seen_same}
use Rattle.engine_model.proofs.lemmas.Leading.{kept_stays, kept_on, sound_stays, any_step, any_on}
use Rattle.engine_model.proofs.lemmas.Refusals.{quiet_on, unmade_quiet, unmade_on}
use Rattle.engine_model.proofs.lemmas.Restores.{held_stays, is_applying, ends_held}
use Rattle.host_core.specs.Stops.{Stays}
use Rattle.engine_restore.specs.Given.{IsGiven}
use Rattle.engine_restore.specs.Restoring.{Hinders, LeadsBack, Undoes, Interrupts, Restores}
use Rattle.engine_restore.proofs.Compares.{restored_net, none_here}
use Rattle.engine_restore.proofs.Gives.{gave_saved, if_err_weaker}
use Rattle.engine_restore.proofs.Readies.{later_on, runs_to}
use Rattle.engine_restore.proofs.restoring.restore.Goals as goal
use Rattle.engine_restore.proofs.restoring.restore.Goals.{After-take_up, After-undo}

-- what is known before the change is taken up
record Ready (g : _) (c : After-take_up g) (checkpoint : Checkpoint) : Type 0 where
  leads : LeadsBack c.in-Ok.calls.items checkpoint (g.H.Host.told c.args.host.now) (g.H.Host.told c.ready.new.host)
  holds : Holds (Some checkpoint) (g.H.Host.told c.ready.new.host)
  ends : Ends (stand leads.from (Some checkpoint)) (g.H.Host.told c.ready.new.host)

held : (g : _) (c : After-take_up g) (checkpoint : Checkpoint) → g.H.Host.tells → Holds (Some checkpoint) (g.H.Host.told c.args.host.now) → Holds (Some checkpoint) (g.H.Host.told c.ready.new.host)
held g c checkpoint tells holds =
    let begun = c.ready.ensures.unbegun in
    held_stays (Some checkpoint) (g.H.Host.told c.args.host.now) (g.H.Host.told c.ready.new.host) holds begun.stops (ap (λ (s : State). s.cell) (begun.same tells))

known : (g : _) (c : After-take_up g) (checkpoint : Checkpoint) → g.H.Host.honest → Holds (Some checkpoint) (g.H.Host.told c.args.host.now) → Ready g c checkpoint
known g c checkpoint honest holds =
    let tells = g.met.H.Host.honest_tells honest in
    let mid = g.H.Host.told c.ready.new.host in
    let ready = c.in-Ok.ensures.ready in
    let leads = ready.leads honest checkpoint holds in
    let there = held g c checkpoint tells holds in
    let nets : HasNet (Some leads.from) mid = subst (λ (n : Option NetData). HasNet n mid) leads.is_from ((g.met.H.Host.lawful c.ready.new.host).no_doubt tells ready.settled) in
    record { leads = leads; holds = there; ends = ends_held leads.from (Some checkpoint) mid nets there }

taken : (g : _) (c : After-take_up g) (checkpoint : Checkpoint) (saved : NetData) → g.H.Host.honest → Sound (g.H.Host.told c.args.host.now) → Holds (Some checkpoint) (g.H.Host.told c.args.host.now) → checkpoint.net ≡ Some saved
    → Kept (Only (restored_to saved)) (g.H.Host.told c.args.host.now) (g.H.Host.told c.take_up.new.host)
taken g c checkpoint saved honest sound holds has =
    let old = g.H.Host.told c.args.host.now in
    let mid = g.H.Host.told c.ready.new.host in
    let steps = c.ready.ensures.unbegun.stops in
    let k = known g c checkpoint honest holds in
    kept_on (Only (restored_to saved)) old mid (g.H.Host.told c.take_up.new.host) (kept_stays (Only (restored_to saved)) old mid sound steps)
    (c.take_up.ensures.kept (g.met.H.Host.honest_tells honest) (sound_stays old mid sound steps) checkpoint k.leads.from saved k.holds k.ends has)

-- no call was made before the planned ones
unmade : (g : _) (c : After-take_up g) → NoCallMade (g.H.Host.told c.args.host.now).kernel (g.H.Host.told c.take_up.new.host).kernel
unmade g c =
    unmade_on (g.H.Host.told c.args.host.now).kernel (g.H.Host.told c.ready.new.host).kernel (g.H.Host.told c.take_up.new.host).kernel c.ready.ensures.unbegun.unmade (inl c.take_up.ensures.kernel.kernel)

pub undo-requires : goal.undo-requires
undo-requires g c = record {
  settled = c.take_up.ensures.kernel.settled c.in-Ok.ensures.ready.settled;
  zero = ap (λ (k : Kernel). k.calls) c.take_up.ensures.kernel.kernel ∙ c.in-Ok.ensures.ready.zero;
  cell = λ tells.
      let was = c.requires tells in
      (_, c.in-Ok-take_up.ensures.taken tells was.0 (held g (goal.at.undo-requires g c).After-take_up was.0 tells was.1));
}

pub returns-in-Err : goal.returns-in-Err
returns-in-Err g c =
    let old = g.H.Host.told c.args.host.now in
    let new = g.H.Host.told c.ready.new.host in
    let begun = c.ready.ensures.unbegun in
    record {
      restored = tt;
      fault = c.in-Err.ensures.fault;
      kept = λ honest sound checkpoint saved holds has. kept_stays (Only (restored_to saved)) old new sound begun.stops;
      bare = λ tells none. begun.same tells;
      waits = λ tells. waits_stays old new begun.stops;
      seen = λ honest net seen s left waits. c.ready.ensures.seen honest net seen;
      moves = any_step Stays old.stops new.stops begun.stops;
      later = c.ready.ensures.later;
    }

pub returns : goal.returns
returns g c =
    let at = (goal.at.returns g c).After-take_up in
    let old = g.H.Host.told c.args.host.now in
    let mid = g.H.Host.told c.ready.new.host in
    let new = g.H.Host.told c.take_up.new.host in
    record {
      restored = tt;
      fault = record {
        fails = (rose_after old.faults mid.faults new.faults c.ready.ensures.later c.in-Err-take_up.ensures.cause.failed, unmade_quiet old.kernel new.kernel (unmade g at));
        healthy = λ honest sound. tt;
        exact = λ honest checkpoint holds. tt;
      };
      kept = λ honest sound checkpoint saved holds has. taken g at checkpoint saved honest sound holds has;
      bare = λ tells none. absurd (none_here old.state.net (c.in-Ok.ensures.ready.found tells) none);
      waits = λ tells. waits_on old mid new (waits_stays old mid c.ready.ensures.unbegun.stops) (c.take_up.ensures.waits tells);
      seen = λ honest net seen s left waits. seen_same g.H.Host.tells net mid new (g.met.H.Host.honest_tells honest) c.take_up.ensures.kernel (c.ready.ensures.seen honest net seen);
      moves = any_on old.stops mid.stops new.stops (any_step Stays old.stops mid.stops c.ready.ensures.unbegun.stops) c.take_up.ensures.moves;
      later = later_on old.faults mid.faults new.faults c.ready.ensures.later c.take_up.ensures.cause.later;
    }

-- ---- the calls and the clearing

-- as the change is taken up
net_is : (g : _) (c : After-undo g) (tells : g.H.Host.tells) (from : NetData) → (g.H.Host.told c.ready.new.host).state.net ≡ Some from → (g.H.Host.told c.take_up.new.host).state.net ≡ Some from
net_is g c tells from is = c.take_up.ensures.kernel.net tells ∙ is

calls_are : (g : _) (c : After-undo g) → c.deref.result.now ≡ c.in-Ok.calls.items
calls_are g c = c.deref.ensures.value

-- the saved network stays in its place
marked_saved : (g : _) (c : After-undo g) (checkpoint : Checkpoint) → g.H.Host.tells → Holds (Some checkpoint) (g.H.Host.told c.args.host.now) → saved_net (g.H.Host.told c.take_up.new.host).state.cell ≡ checkpoint.net
marked_saved g c checkpoint tells holds =
    let marked = c.in-Ok-take_up.ensures.taken tells checkpoint (held g (goal.at.After-undo g c).After-take_up checkpoint tells holds) in
    saved_is (in_phase Applying checkpoint) (g.H.Host.told c.take_up.new.host).state.cell marked.cell

-- the change is being made, and has a saved network
taken_up : (g : _) (c : After-undo g) → StillOpen g.H.Host.tells (g.H.Host.told c.take_up.new.host)
taken_up g c = λ tells.
    let was = c.requires tells in
    let mid = g.H.Host.told c.ready.new.host in
    let there = held g (goal.at.After-undo g c).After-take_up was.0 tells was.1 in
    let given = c.in-Ok.ensures.ready.given tells in
    let saved : was.0.net ≡ Some given.saved = sym (saved_is was.0 mid.state.cell there.cell) ∙ given.is_saved in
    subst (λ (k : Option Checkpoint). HasOpen k) (sym (c.in-Ok-take_up.ensures.taken tells was.0 there).cell) (refl, subst (λ (n : Option NetData). IsSome n) (sym saved) refl)

restores : (g : _) (c : After-undo g) → Undoes g.H.Host.tells g.H.Host.honest c.deref.result.now (g.H.Host.told c.take_up.new.host) (g.H.Host.told c.undo.new.host)
    → Restores g.H.Host.tells g.H.Host.honest (g.H.Host.told c.args.host.now) (g.H.Host.told c.undo.new.host)
restores g c u =
    let at = (goal.at.After-undo g c).After-take_up in
    let old = g.H.Host.told c.args.host.now in
    let mid = g.H.Host.told c.ready.new.host in
    let taken = g.H.Host.told c.take_up.new.host in
    let new = g.H.Host.told c.undo.new.host in
    let ready = c.in-Ok.ensures.ready in
    let calls = c.deref.result.now in
    record {
      cleared = u.cleared;
      ends = ends;
      exact = λ honest checkpoint holds. let k = known g at checkpoint honest holds in (k.leads.saved, k.leads.finds);
      quiet = quiet_on old.kernel taken.kernel new.kernel (unmade_quiet old.kernel taken.kernel (unmade g at)) u.quiet;
      gave = λ tells.
          gave_saved calls mid new (subst (λ (l : List Call). IsGiven l mid) (sym (calls_are g c)) (ready.given tells)) u.made (λ none. u.idle tells none ∙ c.take_up.ensures.kernel.fresh tells)
          (same tells ∙ ap (λ (s : State). saved_net s.cell) (sym (c.ready.ensures.unbegun.same tells)));
      saved = same;
      reads = λ honest.
          let tells = g.met.H.Host.honest_tells honest in
          let was = c.requires tells in
          let k = known g at was.0 honest was.1 in
          restored_net k.leads.saved taken new ((g.met.H.Host.lawful c.undo.new.host).reads tells) (marked_saved g c was.0 tells was.1 ∙ k.leads.is_saved) (ends honest was.0 k.leads.saved was.1 k.leads.is_saved) (u.saved tells);
    }
  where
    ends : g.H.Host.honest → (checkpoint : Checkpoint) (saved : NetData) → Holds (Some checkpoint) (g.H.Host.told c.args.host.now) → checkpoint.net ≡ Some saved → Ends (restored_to saved) (g.H.Host.told c.undo.new.host)
    ends honest checkpoint saved holds has =
        let k = known g (goal.at.After-undo g c).After-take_up checkpoint honest holds in
        let runs = runs_to c.in-Ok.calls.items checkpoint (g.H.Host.told c.args.host.now) (g.H.Host.told c.ready.new.host) saved has k.leads in
        u.ends honest k.leads.from saved (net_is g c (g.met.H.Host.honest_tells honest) k.leads.from k.leads.is_from) (subst (λ (l : List Call). Runs l k.leads.from saved) (sym (calls_are g c)) runs)

    same : g.H.Host.tells → saved_net (g.H.Host.told c.undo.new.host).state.cell ≡ saved_net (g.H.Host.told c.args.host.now).state.cell
    same tells =
        let was = c.requires tells in
        u.saved tells ∙ marked_saved g c was.0 tells was.1 ∙ sym (saved_is was.0 (g.H.Host.told c.args.host.now).state.cell was.1.cell)

hinders : (g : _) (c : After-undo g) (fault : BackFault) → Interrupts g.H.Host.tells g.H.Host.honest c.deref.result.now (g.H.Host.told c.take_up.new.host) (g.H.Host.told c.undo.new.host) fault
    → Hinders g.H.Host.tells g.H.Host.honest (g.H.Host.told c.args.host.now) (g.H.Host.told c.undo.new.host) fault
hinders g c fault i =
    let at = (goal.at.After-undo g c).After-take_up in
    let old = g.H.Host.told c.args.host.now in
    let mid = g.H.Host.told c.ready.new.host in
    let taken = g.H.Host.told c.take_up.new.host in
    let new = g.H.Host.told c.undo.new.host in
    record {
      fails = fails_late g.H.Host.tells old taken new (later_on old.faults mid.faults taken.faults c.ready.ensures.later c.take_up.ensures.cause.later) (unmade g at) (taken_up g c) fault i.begun (i.fails (taken_up g c));
      healthy = λ honest sound. let was = c.requires (g.met.H.Host.honest_tells honest) in healthy honest was.0 was.1;
      exact = λ honest checkpoint holds.
          let k = known g at checkpoint honest holds in
          finds_done (saved_on checkpoint.net old.state.net) k.leads.saved k.leads.finds (Err fault) (healthy honest checkpoint holds)
          (λ is. let same : fault ≡ NoCheckpoint = cc in fails_set g.H.Host.tells taken new fault (i.fails (taken_up g c)) same);
    }
  where
    healthy : g.H.Host.honest → (checkpoint : Checkpoint) → Holds (Some checkpoint) (g.H.Host.told c.args.host.now) → IsHealthy fault
    healthy honest checkpoint holds =
        let k = known g (goal.at.After-undo g c).After-take_up checkpoint honest holds in
        i.healthy honest k.leads.from k.leads.saved (net_is g c (g.met.H.Host.honest_tells honest) k.leads.from k.leads.is_from)
        (subst (λ (l : List Call). Runs l k.leads.from k.leads.saved) (sym (calls_are g c)) k.leads.runs)

-- the change is taken up, so none waits
none_waits : (g : _) (c : After-undo g) → g.H.Host.tells → NoneWaits (g.H.Host.told c.undo.new.host)
none_waits g c tells =
    let was = c.requires tells in
    c.undo.ensures.waits tells (in_phase Applying was.0) (c.in-Ok-take_up.ensures.taken tells was.0 (held g (goal.at.After-undo g c).After-take_up was.0 tells was.1)) refl

pub returns-in-Ok-take_up : goal.returns-in-Ok-take_up
returns-in-Ok-take_up g c =
    let here = (goal.at.returns-in-Ok-take_up g c).After-undo in
    let at = (goal.at.After-undo g here).After-take_up in
    let tells_of = g.H.Host.tells in
    let honest_of = g.H.Host.honest in
    let old = g.H.Host.told c.args.host.now in
    let mid = g.H.Host.told c.ready.new.host in
    let taken_up = g.H.Host.told c.take_up.new.host in
    let new = g.H.Host.told c.undo.new.host in
    record {
      restored = on_ok_weaker c.undo.result (restores g here) c.undo.ensures.undone;
      fault = if_err_weaker c.undo.result (λ fault. Interrupts tells_of honest_of c.deref.result.now taken_up new fault) (λ fault. Hinders tells_of honest_of old new fault) (hinders g here) c.undo.ensures.fault;
      kept = λ honest sound checkpoint saved holds has.
          let tells = g.met.H.Host.honest_tells honest in
          let k = known g at checkpoint honest holds in
          let first = taken g at checkpoint saved honest sound holds has in
          let ends : Ends (stand k.leads.from (Some (applying checkpoint.made checkpoint.deadline saved))) taken_up =
          subst (λ (p : Checkpoint). Ends (stand k.leads.from (Some p)) taken_up) (is_applying checkpoint saved has) (c.in-Ok-take_up.ensures.ends tells checkpoint k.leads.from k.holds k.ends) in
          let runs : Runs c.deref.result.now k.leads.from saved = subst (λ (l : List Call). Runs l k.leads.from saved) (sym (calls_are g here)) (runs_to c.in-Ok.calls.items checkpoint old mid saved has k.leads) in
          kept_on (Only (restored_to saved)) old taken_up new first
          (c.undo.ensures.kept honest first.sound checkpoint.made checkpoint.deadline k.leads.from saved ends (net_is g here tells k.leads.from k.leads.is_from) k.leads.built runs);
      bare = λ tells none. absurd (none_here old.state.net (c.in-Ok.ensures.ready.found tells) none);
      waits = λ tells s left waits. absurd (none_waits g here tells s left waits);
      seen = λ honest net seen s left waits. absurd (none_waits g here (g.met.H.Host.honest_tells honest) s left waits);
      moves = any_on old.stops mid.stops new.stops (any_step Stays old.stops mid.stops c.ready.ensures.unbegun.stops) (any_on mid.stops taken_up.stops new.stops c.take_up.ensures.moves c.undo.ensures.moves);
      later = later_on old.faults mid.faults new.faults c.ready.ensures.later (later_on mid.faults taken_up.faults new.faults c.take_up.ensures.cause.later c.undo.ensures.later);
    }
