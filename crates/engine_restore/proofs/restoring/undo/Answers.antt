use Rattle.std.proofs.Common.{◌≡◌, ◌∙◌, inr, Option, Some, None, Err, ℕ, ap, subst, sym, refl}
use Rattle.net_model.specs.NetData.{NetData, IsNet}
use Rattle.kernel_model.specs.Runs.{Runs}
use Rattle.host_core.proofs.lemmas.Counts.{rose_after}
use Rattle.host_core.specs.HostView.{HasNet, Kernel, NoneRefused, SameCell, SameNet}
use Rattle.checkpoint_cell.specs.Cell.{Checkpoint, cell_of, applying, saved_net}
use Rattle.checkpoint_cell.specs.Steps.{Holds, NoneOr}
use Rattle.checkpoint_cell.specs.Settled.{Standing}
use Rattle.engine_model.specs.Faults.{HasOpen, StillOpen}
use Rattle.engine_model.specs.Undone.{stand}
use Rattle.engine_model.specs.Sound.{Sound}
use Rattle.engine_model.specs.Stations.{Only, Kept, Ends}
use Rattle.checkpoint_cell.specs.Settled.{restored_to}
use Rattle.checkpoint_cell.proofs.lemmas.Saved.{saved_stays}
use Rattle.engine_model.specs.Compared.{NoneWaits}
use Rattle.checkpoint_cell.specs.declared.Phase.TheVariants.{Applying}
use Rattle.engine_model.proofs.lemmas.Comparing.{made_waits, held_waits, none_or_waits}
use Rattle.engine_model.proofs.lemmas.Leading.{run_kept, cell_kept, same_kind, kept_on, any_step, any_on}
use Rattle.engine_model.proofs.lemmas.Restores.{held, ends_held, clearing}
use Rattle.engine_model.proofs.lemmas.Refusals.{quiet_same, quiet_on}
use Rattle.engine_restore.proofs.Readies.{later_on}
use Rattle.engine_restore.proofs.restoring.undo.Goals as goal
use Rattle.engine_restore.proofs.restoring.undo.Goals.{After-run, After-clear}

ran : (g : _) (c : After-run g) → g.H.Host.honest → Sound (g.H.Host.told c.args.host.now) → (made deadline : ℕ) (from saved : NetData) → Ends (stand from (Some (applying made deadline saved))) (g.H.Host.told c.args.host.now)
    → IsNet from → Kept (Only (restored_to saved)) (g.H.Host.told c.args.host.now) (g.H.Host.told c.run.new.host)
ran g c honest sound made deadline from saved ends built =
    let old = g.H.Host.told c.args.host.now in
    let kind = same_kind from saved (applying made deadline saved) old old.state ((g.met.H.Host.lawful c.args.host.now).reads (g.met.H.Host.honest_tells honest)) sound ends refl in
    run_kept (Only (restored_to saved)) made deadline from saved old (g.H.Host.told c.run.new.host) refl ends sound kind built (c.run.ensures.stops honest)

-- no kernel call touches the checkpoint
still : (g : _) (c : After-run g) → StillOpen g.H.Host.tells (g.H.Host.told c.args.host.now) → StillOpen g.H.Host.tells (g.H.Host.told c.run.new.host)
still g c up = λ tells. subst (λ (k : Option Checkpoint). HasOpen k) (sym (ap cell_of (c.run.ensures.cell tells))) (up tells)

-- the checkpoint that is held is that of a change that is being made, so none waits
held_on : (g : _) (c : After-run g) (checkpoint : Checkpoint) → g.H.Host.tells → Holds (Some checkpoint) (g.H.Host.told c.args.host.now) → Holds (Some checkpoint) (g.H.Host.told c.run.new.host)
held_on g c checkpoint tells holds = held (Some checkpoint) (g.H.Host.told c.args.host.now) (g.H.Host.told c.run.new.host) holds c.run.ensures.stops_cell (c.run.ensures.cell tells)

none_waits : (g : _) (c : After-run g) → g.H.Host.tells → (checkpoint : Checkpoint) → Holds (Some checkpoint) (g.H.Host.told c.args.host.now) → checkpoint.phase ≡ Applying → NoneWaits (g.H.Host.told c.run.new.host)
none_waits g c tells checkpoint holds made = held_waits (Some checkpoint) (g.H.Host.told c.run.new.host) (held_on g c checkpoint tells holds) (λ waits. made_waits checkpoint.phase made waits)

cleared_waits : (g : _) (c : After-clear g) → g.H.Host.tells → (checkpoint : Checkpoint) → Holds (Some checkpoint) (g.H.Host.told c.args.host.now) → checkpoint.phase ≡ Applying → NoneWaits (g.H.Host.told c.clear.new.host)
cleared_waits g c tells checkpoint holds made =
    none_or_waits checkpoint made (g.H.Host.told c.run.new.host) (g.H.Host.told c.clear.new.host) (c.clear.ensures.stops tells checkpoint (held_on g (goal.at.After-clear g c).After-run checkpoint tells holds))

pub returns-in-Err-Refused : goal.returns-in-Err-Refused
returns-in-Err-Refused g c =
    let is = ap (λ e. Err e) c.in-Err-Refused.field-0-is in
    record {
      undone = tt;
      fault = record {
        fails = λ up. (refl, c.in-Err-Refused.ensures.refused _ _ is c.requires.zero, c.in-Err-Refused.ensures.once _ _ is, still g (goal.at.returns-in-Err-Refused g c).After-run up);
        begun = λ before. before;
        healthy = λ honest from saved stands runs. c.in-Err-Refused.ensures.accepted honest from saved stands runs _ _ is;
      };
      kept = λ honest sound made deadline from saved ends stands built runs. ran g (goal.at.returns-in-Err-Refused g c).After-run honest sound made deadline from saved ends built;
      waits = λ tells checkpoint holds made. none_waits g (goal.at.returns-in-Err-Refused g c).After-run tells checkpoint holds made;
      moves = any_step SameCell (g.H.Host.told c.args.host.now).stops (g.H.Host.told c.run.new.host).stops c.run.ensures.stops_cell;
      later = c.run.ensures.cause.later;
    }

pub returns-in-Err-Failed : goal.returns-in-Err-Failed
returns-in-Err-Failed g c = record {
  undone = tt;
  fault = record {
    fails = λ up. (c.in-Err-Failed.ensures.cause.failed (ap (λ e. Err e) c.in-Err-Failed.field-0-is), c.in-Err-Failed.ensures.quiet (λ k n is. cc));
    begun = λ before. before;
    healthy = λ honest from saved stands runs. tt;
  };
  kept = λ honest sound made deadline from saved ends stands built runs. ran g (goal.at.returns-in-Err-Failed g c).After-run honest sound made deadline from saved ends built;
  waits = λ tells checkpoint holds made. none_waits g (goal.at.returns-in-Err-Failed g c).After-run tells checkpoint holds made;
  moves = any_step SameCell (g.H.Host.told c.args.host.now).stops (g.H.Host.told c.run.new.host).stops c.run.ensures.stops_cell;
  later = c.run.ensures.cause.later;
}

pub returns-in-Err-OutOfMemory : goal.returns-in-Err-OutOfMemory
returns-in-Err-OutOfMemory g c = record {
  undone = tt;
  fault = record {
    fails = λ up. (c.in-Err-OutOfMemory.ensures.quiet (λ k n is. cc), λ tells. inr (still g (goal.at.returns-in-Err-OutOfMemory g c).After-run up tells));
    begun = λ before. before;
    healthy = λ honest from saved stands runs. tt;
  };
  kept = λ honest sound made deadline from saved ends stands built runs. ran g (goal.at.returns-in-Err-OutOfMemory g c).After-run honest sound made deadline from saved ends built;
  waits = λ tells checkpoint holds made. none_waits g (goal.at.returns-in-Err-OutOfMemory g c).After-run tells checkpoint holds made;
  moves = any_step SameCell (g.H.Host.told c.args.host.now).stops (g.H.Host.told c.run.new.host).stops c.run.ensures.stops_cell;
  later = c.run.ensures.cause.later;
}

done : (g : _) (c : After-clear g) → g.H.Host.honest → Sound (g.H.Host.told c.args.host.now) → (made deadline : ℕ) (from saved : NetData) → Ends (stand from (Some (applying made deadline saved))) (g.H.Host.told c.args.host.now)
    → (g.H.Host.told c.args.host.now).state.net ≡ Some from → IsNet from → Runs c.args.calls.now from saved
    → Kept (Only (restored_to saved)) (g.H.Host.told c.args.host.now) (g.H.Host.told c.clear.new.host)
done g c honest sound made deadline from saved ends is built runs =
    let tells = g.met.H.Host.honest_tells honest in
    let old = g.H.Host.told c.args.host.now in
    let mid = g.H.Host.told c.run.new.host in
    let reads = (g.met.H.Host.lawful c.args.host.now).reads tells in
    let first = ran g (goal.at.After-clear g c).After-run honest sound made deadline from saved ends built in
    let set : Holds (Some (applying made deadline saved)) old = record { sure = (c.requires.cell tells).1.sure; cell = ap (λ (p : Standing). p.cell) (ends old.state reads) } in
    let there : Holds (Some (applying made deadline saved)) mid = held _ old mid set c.run.ensures.stops_cell (c.run.ensures.cell tells) in
    let nets : HasNet (Some saved) mid = subst (λ (n : Option NetData). HasNet n mid) (c.in-Ok.ensures.reached honest from saved is runs) ((g.met.H.Host.lawful c.run.new.host).no_doubt tells c.in-Ok.ensures.settled) in
    kept_on (Only (restored_to saved)) old mid (g.H.Host.told c.clear.new.host) first
    (cell_kept (Only (restored_to saved)) saved (Some (applying made deadline saved)) (NoneOr (applying made deadline saved)) mid (g.H.Host.told c.clear.new.host) (ends_held saved _ mid nets there) first.sound
    (c.clear.ensures.stops tells _ there) (clearing (Only (restored_to saved)) saved saved (applying made deadline saved) refl refl refl))

quiet : (g : _) (c : After-clear g) → NoneRefused (g.H.Host.told c.args.host.now).kernel (g.H.Host.told c.clear.new.host).kernel
quiet g c =
    let mid = (g.H.Host.told c.run.new.host).kernel in
    let new = (g.H.Host.told c.clear.new.host).kernel in
    quiet_on (g.H.Host.told c.args.host.now).kernel mid new (c.in-Ok.ensures.quiet (λ k n is. cc)) (quiet_same mid new c.clear.ensures.kernel.kernel)

pub returns-in-Ok-clear : goal.returns-in-Ok-clear
returns-in-Ok-clear g c =
    let at = (goal.at.returns-in-Ok-clear g c).After-clear in
    let old = g.H.Host.told c.args.host.now in
    let mid = g.H.Host.told c.run.new.host in
    let new = g.H.Host.told c.clear.new.host in
    record {
      undone = record {
        cleared = c.in-Ok-clear.ensures.cleared;
        ends = λ honest from saved is runs.
            let tells = g.met.H.Host.honest_tells honest in
            let nets : HasNet (Some saved) mid = subst (λ (n : Option NetData). HasNet n mid) (c.in-Ok.ensures.reached honest from saved is runs) ((g.met.H.Host.lawful c.run.new.host).no_doubt tells c.in-Ok.ensures.settled) in
            ends_held saved None new (λ s left. let was = c.clear.ensures.stops_net.now s left in was.2 ∙ nets was.0 was.1) (c.in-Ok-clear.ensures.cleared tells);
        quiet = quiet g at;
        made = ap (λ (k : Kernel). k.calls) c.clear.ensures.kernel.kernel ∙ c.in-Ok.ensures.made c.requires.zero;
        idle = λ tells none. c.clear.ensures.kernel.fresh tells ∙ c.run.ensures.idle tells none;
        saved = λ tells. saved_stays mid.state.cell new.state.cell (c.clear.ensures.behind tells) ∙ ap saved_net (c.run.ensures.cell tells);
      };
      fault = tt;
      kept = λ honest sound made deadline from saved ends is built runs. done g at honest sound made deadline from saved ends is built runs;
      waits = λ tells checkpoint holds made. cleared_waits g at tells checkpoint holds made;
      moves = any_on old.stops mid.stops new.stops (any_step SameCell old.stops mid.stops c.run.ensures.stops_cell) (any_step SameNet mid.stops new.stops c.clear.ensures.stops_net);
      later = later_on old.faults mid.faults new.faults c.run.ensures.cause.later c.clear.ensures.cause.later;
    }

pub returns-in-Err : goal.returns-in-Err
returns-in-Err g c =
    let at = (goal.at.returns-in-Err g c).After-clear in
    let old = g.H.Host.told c.args.host.now in
    let mid = g.H.Host.told c.run.new.host in
    let new = g.H.Host.told c.clear.new.host in
    record {
      undone = tt;
      fault = record {
        fails = λ up. (rose_after old.faults mid.faults new.faults c.run.ensures.cause.later c.in-Err.ensures.cause.failed, quiet g at);
        begun = λ before. before;
        healthy = λ honest from saved is runs. tt;
      };
      kept = λ honest sound made deadline from saved ends is built runs. done g at honest sound made deadline from saved ends is built runs;
      waits = λ tells checkpoint holds made. cleared_waits g at tells checkpoint holds made;
      moves = any_on old.stops mid.stops new.stops (any_step SameCell old.stops mid.stops c.run.ensures.stops_cell) (any_step SameNet mid.stops new.stops c.clear.ensures.stops_net);
      later = later_on old.faults mid.faults new.faults c.run.ensures.cause.later c.clear.ensures.cause.later;
    }
