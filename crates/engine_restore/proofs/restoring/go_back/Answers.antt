use Rattle.std.proofs.Common.{◌≡◌, ◌∙◌, Option, Some, None, sym, ap, subst, refl}
use Rattle.std.proofs.lemmas.Bool.{true≢false, false≢true}
use Rattle.std.specs.Prelude.{⊤, Bool, Err}
use Rattle.net_model.specs.NetData.{NetData}
use Rattle.host_core.specs.HostView.{State}
use Rattle.host_core.specs.Stops.{Stays}
use Rattle.checkpoint_cell.specs.Cell.{Checkpoint, cell_of, saved_net}
use Rattle.checkpoint_cell.specs.Settled.{Standing, standing, restored_to}
use Rattle.checkpoint_cell.specs.Steps.{Holds}
use Rattle.engine_model.specs.Answers.{IsUndone, Finds}
use Rattle.engine_model.specs.Compared.{WaitsSeen}
use Rattle.engine_model.specs.Machine.{saved_on}
use Rattle.engine_model.specs.Sound.{Sound, IsWhole}
use Rattle.engine_model.specs.Stations.{Only, Kept, Ends}
use Rattle.engine_model.specs.Undone.{restored, undone}
use Rattle.engine_model.proofs.lemmas.Failing.{looked, fails_after}
use Rattle.engine_model.proofs.lemmas.Finding.{finds_as}
use Rattle.engine_model.proofs.lemmas.Comparing.{waits_stays, waits_on, seen_on, seen_same}
use Rattle.engine_model.proofs.lemmas.Leading.{kept_stays, kept_on, kept_wider, sound_stays, same_state, any_step, any_on}
use Rattle.engine_model.proofs.lemmas.Machines.{from_read}
use Rattle.engine_model.proofs.lemmas.Refusals.{quiet_same, quiet_on}
use Rattle.engine_model.proofs.lemmas.Restores.{restored_is}
use Rattle.engine_model.proofs.lemmas.Settles.{SetAs, set_as, empty_as, empty_back, undone_set}
use Rattle.engine_restore.proofs.Apart.{done_failed, unbegun_memory, some_is}
use Rattle.engine_restore.proofs.Readies.{later_on}
use Rattle.engine_restore.proofs.restoring.go_back.Goals as goal
use Rattle.engine_restore.proofs.restoring.go_back.Goals.{After-restore}

pub returns-in-Err : goal.returns-in-Err
returns-in-Err g c =
    let old = g.H.Host.told c.args.host.now in
    let new = g.H.Host.told c.barrier.new.host in
    let look = c.barrier.ensures.untouched in
    record {
      cleared = λ tells. tt;
      empty = λ tells. tt;
      set = λ tells. tt;
      kept = λ honest sound. kept_stays (IsUndone old.state) old new sound look.stops;
      ends = λ honest sound. tt;
      back = λ honest sound saved all. tt;
      healthy = λ honest sound. tt;
      exact = λ honest checkpoint is. tt;
      unset = λ tells none. refl;
      memory = λ tells is. absurd (unbegun_memory _ refl is);
      fails = (c.in-Err.ensures.cause.failed, looked g.H.Host.tells old new look);
      quiet = tt;
      gave = λ tells. tt;
      idle = tt;
      bare = λ tells none. same_state g.H.Host.tells old new look tells;
      going = λ honest sound begun. absurd (begun tt);
      seen = λ honest net seen. seen_on net old new (waits_stays old new look.stops) seen (λ is s left waits. seen_same g.H.Host.tells net old new (g.met.H.Host.honest_tells honest) look.kernel is);
      moves = any_step Stays old.stops new.stops look.stops;
      saved = λ tells. tt;
      reads = λ honest. tt;
      later = c.barrier.ensures.cause.later;
    }

pub returns-in-Empty : goal.returns-in-Empty
returns-in-Empty g c =
    let old = g.H.Host.told c.args.host.now in
    let new = g.H.Host.told c.barrier.new.host in
    let look = c.barrier.ensures.untouched in
    let none = λ (tells : g.H.Host.tells). empty_as (cell_of old.state.cell) (sym c.in-Empty.is ∙ c.in-Ok.ensures.seen tells) in
    record {
      cleared = λ tells. subst (λ (k : Option Checkpoint). Holds k new) (none tells) (c.in-Ok.ensures.sure tells);
      empty = λ tells was. none tells;
      set = λ tells was. absurd (false≢true was);
      kept = λ honest sound. kept_stays (IsUndone old.state) old new sound look.stops;
      ends = λ honest sound was. absurd (false≢true was);
      back = λ honest sound saved all s left.
          let tells = g.met.H.Host.honest_tells honest in
          let holds = c.in-Ok.ensures.sure tells in
          let from = look.stops.now s left in
          empty_back saved s (ap cell_of (holds.sure s left) ∙ holds.cell ∙ none tells) (ap (λ (p : State). undone (standing p)) from.2 ∙ all from.0 from.1);
      healthy = λ honest sound. tt;
      exact = λ honest checkpoint is. let e : Some checkpoint ≡ None = sym is ∙ none (g.met.H.Host.honest_tells honest) in absurd (cc);
      unset = λ tells is. tt;
      memory = λ tells is. absurd (done_failed _ _ is);
      fails = tt;
      quiet = quiet_same old.kernel new.kernel look.kernel.kernel;
      gave = λ tells was. absurd (false≢true was);
      idle = λ was. looked g.H.Host.tells old new look;
      bare = λ tells is. same_state g.H.Host.tells old new look tells;
      going = λ honest sound. tt;
      seen = λ honest net seen. seen_on net old new (waits_stays old new look.stops) seen (λ is s left waits. seen_same g.H.Host.tells net old new (g.met.H.Host.honest_tells honest) look.kernel is);
      moves = any_step Stays old.stops new.stops look.stops;
      saved = λ tells. ap saved_net (look.cell tells);
      reads = λ honest was. absurd (false≢true was);
      later = c.barrier.ensures.cause.later;
    }

-- ---- behind a restoring

as_set : (g : _) (c : After-restore g) → g.H.Host.tells → SetAs (cell_of (g.H.Host.told c.args.host.now).state.cell) c.in-Set.phase c.in-Set.made c.in-Set.deadline
as_set g c tells = set_as (cell_of (g.H.Host.told c.args.host.now).state.cell) c.in-Set.phase c.in-Set.made c.in-Set.deadline (sym c.in-Set.is ∙ c.in-Ok.ensures.seen tells)

held : (g : _) (c : After-restore g) (tells : g.H.Host.tells) → Holds (Some (as_set g c tells).checkpoint) (g.H.Host.told c.barrier.new.host)
held g c tells = subst (λ (k : Option Checkpoint). Holds k (g.H.Host.told c.barrier.new.host)) (as_set g c tells).is (c.in-Ok.ensures.sure tells)

whole : (g : _) (c : After-restore g) (tells : g.H.Host.tells) → Sound (g.H.Host.told c.args.host.now) → IsWhole (g.H.Host.told c.args.host.now).state (as_set g c tells).checkpoint
whole g c tells sound = (sound.fit (g.H.Host.told c.args.host.now).state ((g.met.H.Host.lawful c.args.host.now).reads tells)).whole (as_set g c tells).checkpoint (as_set g c tells).is

after_barrier : (g : _) (c : After-restore g) → g.H.Host.honest → Sound (g.H.Host.told c.args.host.now) → Kept (IsUndone (g.H.Host.told c.args.host.now).state) (g.H.Host.told c.barrier.new.host) (g.H.Host.told c.restore.new.host)
after_barrier g c honest sound =
    let tells = g.met.H.Host.honest_tells honest in
    let old = g.H.Host.told c.args.host.now in
    let mid = g.H.Host.told c.barrier.new.host in
    let w = whole g c tells sound in
    let is = undone_set old.state (as_set g c tells).checkpoint (as_set g c tells).is ∙ ap restored w.is_saved in
    kept_wider (Only (restored_to w.saved)) (IsUndone old.state) (λ a same. is ∙ ap (λ (x : Standing). Some x) (sym same)) mid (g.H.Host.told c.restore.new.host)
    (c.restore.ensures.kept honest (sound_stays old mid sound c.barrier.ensures.untouched.stops) (as_set g c tells).checkpoint w.saved (held g c tells) w.is_saved)

kept : (g : _) (c : After-restore g) → g.H.Host.honest → Sound (g.H.Host.told c.args.host.now) → Kept (IsUndone (g.H.Host.told c.args.host.now).state) (g.H.Host.told c.args.host.now) (g.H.Host.told c.restore.new.host)
kept g c honest sound =
    let old = g.H.Host.told c.args.host.now in
    let mid = g.H.Host.told c.barrier.new.host in
    kept_on (IsUndone old.state) old mid (g.H.Host.told c.restore.new.host) (kept_stays (IsUndone old.state) old mid sound c.barrier.ensures.untouched.stops) (after_barrier g c honest sound)

-- without a network nothing is done
still_bare : (g : _) (c : After-restore g) → g.H.Host.tells → (g.H.Host.told c.args.host.now).state.net ≡ None → (g.H.Host.told c.restore.new.host).state ≡ (g.H.Host.told c.args.host.now).state
still_bare g c tells none =
    c.restore.ensures.bare tells (c.barrier.ensures.untouched.kernel.net tells ∙ none) ∙ same_state g.H.Host.tells (g.H.Host.told c.args.host.now) (g.H.Host.told c.barrier.new.host) c.barrier.ensures.untouched tells

there : (g : _) (c : After-restore g) → g.H.Host.tells → (checkpoint : Checkpoint) → cell_of (g.H.Host.told c.args.host.now).state.cell ≡ Some checkpoint → Holds (Some checkpoint) (g.H.Host.told c.barrier.new.host)
there g c tells checkpoint is = subst (λ (k : Option Checkpoint). Holds k (g.H.Host.told c.barrier.new.host)) is (c.in-Ok.ensures.sure tells)

-- what may still wait could be left before, and the network is seen as it was
still_seen : (g : _) (c : After-restore g) → g.H.Host.honest → (net : NetData) → WaitsSeen net (g.H.Host.told c.args.host.now) → WaitsSeen net (g.H.Host.told c.restore.new.host)
still_seen g c honest net seen =
    let tells = g.met.H.Host.honest_tells honest in
    let old = g.H.Host.told c.args.host.now in
    let mid = g.H.Host.told c.barrier.new.host in
    let new = g.H.Host.told c.restore.new.host in
    let look = c.barrier.ensures.untouched in
    seen_on net old new (waits_on old mid new (waits_stays old mid look.stops) (c.restore.ensures.waits tells)) seen (λ is. c.restore.ensures.seen honest net (seen_same g.H.Host.tells net old mid tells look.kernel is))

pub restore-requires : goal.restore-requires
restore-requires g c = λ tells.
    let set = set_as (cell_of (g.H.Host.told c.args.host.now).state.cell) c.in-Set.phase c.in-Set.made c.in-Set.deadline (sym c.in-Set.is ∙ c.in-Ok.ensures.seen tells) in
    (set.checkpoint, subst (λ (k : Option Checkpoint). Holds k (g.H.Host.told c.barrier.new.host)) set.is (c.in-Ok.ensures.sure tells), set.phase_is)

pub returns-in-Ok-restore : goal.returns-in-Ok-restore
returns-in-Ok-restore g c =
    let at = (goal.at.returns-in-Ok-restore g c).After-restore in
    let old = g.H.Host.told c.args.host.now in
    let mid = g.H.Host.told c.barrier.new.host in
    let new = g.H.Host.told c.restore.new.host in
    let look = c.barrier.ensures.untouched in
    let done = c.in-Ok-restore.ensures.restored in
    record {
      cleared = done.cleared;
      empty = λ tells was. absurd (true≢false was);
      set = λ tells was. some_is (cell_of old.state.cell) (as_set g at tells).checkpoint (as_set g at tells).is;
      kept = λ honest sound. kept g at honest sound;
      ends = λ honest sound was.
          let tells = g.met.H.Host.honest_tells honest in
          let w = whole g at tells sound in (
            restored_to w.saved,
            undone_set old.state (as_set g at tells).checkpoint (as_set g at tells).is ∙ ap restored w.is_saved,
            done.ends honest (as_set g at tells).checkpoint w.saved (held g at tells) w.is_saved,
          );
      back = λ honest sound saved all.
          let tells = g.met.H.Host.honest_tells honest in
          let set = as_set g at tells in
          let is = restored_is set.checkpoint.net (restored_to saved) (sym (undone_set old.state set.checkpoint set.is) ∙ all old.state ((g.met.H.Host.lawful c.args.host.now).reads tells)) in
          subst (λ (x : Standing). Ends x new) (sym is.2) (done.ends honest set.checkpoint is.0 (held g at tells) is.1);
      healthy = λ honest sound. tt;
      exact = λ honest checkpoint is.
          let tells = g.met.H.Host.honest_tells honest in
          let found = done.exact honest checkpoint (there g at tells checkpoint is) in
          (found.0, ap (λ (n : Option NetData). saved_on checkpoint.net n) (sym (look.kernel.net tells)) ∙ found.1);
      unset = λ tells none. tt;
      memory = λ tells is. absurd (done_failed _ _ is);
      fails = tt;
      quiet = quiet_on old.kernel mid.kernel new.kernel (quiet_same old.kernel mid.kernel look.kernel.kernel) done.quiet;
      gave = λ tells was. done.gave tells;
      idle = λ was. absurd (true≢false was);
      bare = λ tells none. still_bare g at tells none;
      going = λ honest sound. tt;
      seen = λ honest net seen. still_seen g at honest net seen;
      moves = any_on old.stops mid.stops new.stops (any_step Stays old.stops mid.stops look.stops) c.restore.ensures.moves;
      saved = λ tells. done.saved tells ∙ ap saved_net (look.cell tells);
      reads = λ honest was. done.reads honest;
      later = later_on old.faults mid.faults new.faults c.barrier.ensures.cause.later c.restore.ensures.later;
    }

pub returns-in-Err-restore : goal.returns-in-Err-restore
returns-in-Err-restore g c =
    let at = (goal.at.returns-in-Err-restore g c).After-restore in
    let old = g.H.Host.told c.args.host.now in
    let mid = g.H.Host.told c.barrier.new.host in
    let new = g.H.Host.told c.restore.new.host in
    let look = c.barrier.ensures.untouched in
    let fault = c.in-Err-restore.ensures.fault in
    record {
      cleared = λ tells. tt;
      empty = λ tells. tt;
      set = λ tells. tt;
      kept = λ honest sound. kept g at honest sound;
      ends = λ honest sound. tt;
      back = λ honest sound saved all. tt;
      healthy = λ honest sound. fault.healthy honest (sound_stays old mid sound look.stops);
      exact = λ honest checkpoint is.
          let tells = g.met.H.Host.honest_tells honest in
          finds_as ⊤ Bool (saved_on checkpoint.net old.state.net) c.in-Err-restore.fault
          (subst (λ (n : Option NetData). Finds {A = ⊤} (saved_on checkpoint.net n) (Err c.in-Err-restore.fault)) (look.kernel.net tells) (fault.exact honest checkpoint (there g at tells checkpoint is)));
      unset = λ tells none. let e : Some (as_set g at tells).checkpoint ≡ None = sym (as_set g at tells).is ∙ none in absurd (cc);
      memory = λ tells is. some_is (cell_of old.state.cell) (as_set g at tells).checkpoint (as_set g at tells).is;
      fails = fails_after g.H.Host.tells old mid new c.barrier.ensures.cause.later (looked g.H.Host.tells old mid look) c.in-Err-restore.fault fault.fails;
      quiet = tt;
      gave = λ tells. tt;
      idle = tt;
      bare = λ tells none. still_bare g at tells none;
      going = λ honest sound begun.
          let tells = g.met.H.Host.honest_tells honest in
          from_read (IsUndone old.state) old mid new ((g.met.H.Host.lawful c.args.host.now).reads tells) sound look.stops (c.in-Ok.ensures.sure tells) (after_barrier g at honest sound);
      seen = λ honest net seen. still_seen g at honest net seen;
      moves = any_on old.stops mid.stops new.stops (any_step Stays old.stops mid.stops look.stops) c.restore.ensures.moves;
      saved = λ tells. tt;
      reads = λ honest. tt;
      later = later_on old.faults mid.faults new.faults c.barrier.ensures.cause.later c.restore.ensures.later;
    }
