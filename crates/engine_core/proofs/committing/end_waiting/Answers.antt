use Rattle.std.proofs.Common.{◌≤◌, ◌∙◌, Option, Some, sym, subst}
use Rattle.host_core.proofs.lemmas.Counts.{rose_after}
use Rattle.host_core.specs.HostView.{SameKernel}
use Rattle.checkpoint_cell.specs.Cell.{Checkpoint, cell_of, is_due}
use Rattle.checkpoint_cell.specs.Steps.{Holds}
use Rattle.engine_model.specs.Sound.{Sound}
use Rattle.engine_model.specs.Stations.{Kept, Waits, IsCommitted}
use Rattle.engine_model.proofs.lemmas.Failing.{looked}
use Rattle.engine_model.proofs.lemmas.Leading.{kept_stays}
use Rattle.engine_model.proofs.lemmas.Machines.{from_read}
use Rattle.engine_model.proofs.lemmas.Settles.{set_as, empty_as}
use Rattle.engine_core.proofs.Apart.{later_on, done_failed, done_fault, fault_none, fault_unfinished, fault_expired, fault_doubt, none_fault, none_unfinished, none_expired, none_doubt, unfinished_fault, unfinished_none, unfinished_expired, unfinished_doubt, expired_fault, expired_none, expired_unfinished, expired_doubt, doubt_none, doubt_unfinished, doubt_expired, unfinished_as, expired_as}
use Rattle.engine_core.proofs.Commits.{waits_as, commits, commits_after, commits_done}
use Rattle.engine_core.proofs.committing.end_waiting.Goals as goal
use Rattle.engine_core.proofs.committing.end_waiting.Goals.{After-clear}

-- ---- nothing is written

pub returns-in-Err : goal.returns-in-Err
returns-in-Err g c =
    let old = g.H.Host.told c.args.host.now in
    let new = g.H.Host.told c.barrier.new.host in
    let look = c.barrier.ensures.untouched in
    record {
      waited = λ tells. tt;
      none = λ tells is. absurd (fault_none is);
      unfinished = λ tells made deadline is. absurd (fault_unfinished made deadline is);
      expired = λ tells made deadline is. absurd (fault_expired made deadline is);
      fault = λ is. c.in-Err.ensures.cause.failed;
      later = c.barrier.ensures.cause.later;
      kernel = look.kernel;
      kept = λ tells sound. kept_stays (IsCommitted c.args.now old.state) old new sound look.stops;
      done = λ tells sound. tt;
      unbegun = λ refused. looked g.H.Host.tells old new look;
      looked = λ tells looks. absurd looks;
      left = λ tells. tt;
      doubted = λ tells sound is. absurd (fault_doubt is);
      doubt = λ tells is. absurd (fault_doubt is);
    }

pub returns-in-Empty : goal.returns-in-Empty
returns-in-Empty g c =
    let old = g.H.Host.told c.args.host.now in
    let new = g.H.Host.told c.barrier.new.host in
    let look = c.barrier.ensures.untouched in
    record {
      waited = λ tells. tt;
      none = λ tells is. empty_as (cell_of old.state.cell) (sym c.in-Empty.is ∙ c.in-Ok.ensures.seen tells);
      unfinished = λ tells made deadline is. absurd (none_unfinished made deadline is);
      expired = λ tells made deadline is. absurd (none_expired made deadline is);
      fault = λ is. absurd (none_fault is);
      later = c.barrier.ensures.cause.later;
      kernel = look.kernel;
      kept = λ tells sound. kept_stays (IsCommitted c.args.now old.state) old new sound look.stops;
      done = λ tells sound. tt;
      unbegun = λ refused. looked g.H.Host.tells old new look;
      looked = λ tells looks. c.in-Ok.ensures.sure tells;
      left = λ tells. tt;
      doubted = λ tells sound is. absurd (none_doubt is);
      doubt = λ tells is. absurd (none_doubt is);
    }

pub returns-in-Applying : goal.returns-in-Applying
returns-in-Applying g c =
    let old = g.H.Host.told c.args.host.now in
    let new = g.H.Host.told c.barrier.new.host in
    let look = c.barrier.ensures.untouched in
    record {
      waited = λ tells. tt;
      none = λ tells is. absurd (unfinished_none _ _ is);
      unfinished = λ tells made deadline is.
          let set = set_as (cell_of old.state.cell) c.in-Set.phase c.in-Set.made c.in-Set.deadline (sym c.in-Set.is ∙ c.in-Ok.ensures.seen tells) in
          let told = unfinished_as c.in-Set.made c.in-Set.deadline made deadline is in
          (set.checkpoint, set.is, set.phase_is ∙ c.in-Applying.is, set.made_is ∙ told.0, set.deadline_is ∙ told.1);
      expired = λ tells made deadline is. absurd (unfinished_expired _ _ made deadline is);
      fault = λ is. absurd (unfinished_fault _ _ is);
      later = c.barrier.ensures.cause.later;
      kernel = look.kernel;
      kept = λ tells sound. kept_stays (IsCommitted c.args.now old.state) old new sound look.stops;
      done = λ tells sound. tt;
      unbegun = λ refused. looked g.H.Host.tells old new look;
      looked = λ tells looks. c.in-Ok.ensures.sure tells;
      left = λ tells. tt;
      doubted = λ tells sound is. absurd (unfinished_doubt _ _ is);
      doubt = λ tells is. absurd (unfinished_doubt _ _ is);
    }

pub returns-then-due : goal.returns-then-due
returns-then-due g c =
    let old = g.H.Host.told c.args.host.now in
    let new = g.H.Host.told c.barrier.new.host in
    let look = c.barrier.ensures.untouched in
    record {
      waited = λ tells. tt;
      none = λ tells is. absurd (expired_none _ _ is);
      unfinished = λ tells made deadline is. absurd (expired_unfinished _ _ made deadline is);
      expired = λ tells made deadline is.
          let set = set_as (cell_of old.state.cell) c.in-Set.phase c.in-Set.made c.in-Set.deadline (sym c.in-Set.is ∙ c.in-Ok.ensures.seen tells) in
          let told = expired_as c.in-Set.made c.in-Set.deadline made deadline is in
          (set.checkpoint, set.is, set.phase_is ∙ c.in-Waiting.is, (λ i. is_due (sym told.0 i) (sym told.1 i) c.args.now) ∙ sym c.if-due.ensures, set.made_is ∙ told.0, set.deadline_is ∙ told.1);
      fault = λ is. absurd (expired_fault _ _ is);
      later = c.barrier.ensures.cause.later;
      kernel = look.kernel;
      kept = λ tells sound. kept_stays (IsCommitted c.args.now old.state) old new sound look.stops;
      done = λ tells sound. tt;
      unbegun = λ refused. looked g.H.Host.tells old new look;
      looked = λ tells looks. c.in-Ok.ensures.sure tells;
      left = λ tells. tt;
      doubted = λ tells sound is. absurd (expired_doubt _ _ is);
      doubt = λ tells is. absurd (expired_doubt _ _ is);
    }

-- ---- the checkpoint is cleared

waits : (g : _) (c : After-clear g) → g.H.Host.tells → Waits c.args.now (cell_of (g.H.Host.told c.args.host.now).state.cell)
waits g c tells =
    let cell = cell_of (g.H.Host.told c.args.host.now).state.cell in
    waits_as c.args.now cell c.in-Set.phase c.in-Set.made c.in-Set.deadline (set_as cell c.in-Set.phase c.in-Set.made c.in-Set.deadline (sym c.in-Set.is ∙ c.in-Ok.ensures.seen tells)) c.in-Waiting.is (sym c.if-due.ensures)

held : (g : _) (c : After-clear g) (tells : g.H.Host.tells) → Holds (Some (waits g c tells).checkpoint) (g.H.Host.told c.barrier.new.host)
held g c tells = subst (λ (k : Option Checkpoint). Holds k (g.H.Host.told c.barrier.new.host)) (waits g c tells).is (c.in-Ok.ensures.sure tells)

kept : (g : _) (c : After-clear g) → g.H.Host.tells → Sound (g.H.Host.told c.args.host.now) → Kept (IsCommitted c.args.now (g.H.Host.told c.args.host.now).state) (g.H.Host.told c.args.host.now) (g.H.Host.told c.clear.new.host)
kept g c tells sound =
    let w = waits g c tells in
    let there = held g c tells in
    commits c.args.now (g.H.Host.told c.args.host.now) (g.H.Host.told c.barrier.new.host) (g.H.Host.told c.clear.new.host) ((g.met.H.Host.lawful c.args.host.now).reads tells) sound w c.barrier.ensures.untouched.stops there
    (c.clear.ensures.stops tells w.checkpoint there)

kernel : (g : _) (c : After-clear g) → SameKernel g.H.Host.tells (g.H.Host.told c.args.host.now) (g.H.Host.told c.clear.new.host)
kernel g c =
    let one = c.barrier.ensures.untouched.kernel in
    let two = c.clear.ensures.kernel in
    record {
      kernel = two.kernel ∙ one.kernel;
      settled = λ was. two.settled (one.settled was);
      fresh = λ tells. two.fresh tells ∙ one.fresh tells;
      net = λ tells. two.net tells ∙ one.net tells;
    }

later : (g : _) (c : After-clear g) → (g.H.Host.told c.args.host.now).faults ≤ (g.H.Host.told c.clear.new.host).faults
later g c = later_on (g.H.Host.told c.args.host.now).faults (g.H.Host.told c.barrier.new.host).faults (g.H.Host.told c.clear.new.host).faults c.barrier.ensures.cause.later c.clear.ensures.cause.later

pub returns-in-Ok-clear : goal.returns-in-Ok-clear
returns-in-Ok-clear g c =
    let at = (goal.at.returns-in-Ok-clear g c).After-clear in
    let old = g.H.Host.told c.args.host.now in
    let mid = g.H.Host.told c.barrier.new.host in
    let new = g.H.Host.told c.clear.new.host in
    record {
      waited = λ tells. waits g at tells;
      none = λ tells is. absurd (done_failed _ _ is);
      unfinished = λ tells made deadline is. absurd (done_failed _ _ is);
      expired = λ tells made deadline is. absurd (done_failed _ _ is);
      fault = λ is. absurd (done_fault is);
      later = later g at;
      kernel = kernel g at;
      kept = λ tells sound. kept g at tells sound;
      done = λ tells sound.
          commits_done c.args.now old mid new ((g.met.H.Host.lawful c.args.host.now).reads tells) sound (waits g at tells) c.barrier.ensures.untouched.stops c.clear.ensures.stops_net (c.in-Ok-clear.ensures.cleared tells);
      unbegun = tt;
      looked = λ tells. tt;
      left = λ tells. λ i. record { net = (kernel g at).net tells i; cell = (c.in-Ok-clear.ensures.cleared tells).cell i };
      doubted = λ tells sound is. absurd (done_failed _ _ is);
      doubt = λ tells is. absurd (done_failed _ _ is);
    }

pub returns-in-Err-clear : goal.returns-in-Err-clear
returns-in-Err-clear g c =
    let at = (goal.at.returns-in-Err-clear g c).After-clear in
    let old = g.H.Host.told c.args.host.now in
    let mid = g.H.Host.told c.barrier.new.host in
    let new = g.H.Host.told c.clear.new.host in
    record {
      waited = λ tells. tt;
      none = λ tells is. absurd (doubt_none is);
      unfinished = λ tells made deadline is. absurd (doubt_unfinished made deadline is);
      expired = λ tells made deadline is. absurd (doubt_expired made deadline is);
      fault = λ is. rose_after old.faults mid.faults new.faults c.barrier.ensures.cause.later c.in-Err-clear.ensures.cause.failed;
      later = later g at;
      kernel = kernel g at;
      kept = λ tells sound. kept g at tells sound;
      done = λ tells sound. tt;
      unbegun = λ refused. absurd refused;
      looked = λ tells looks. absurd looks;
      left = λ tells. tt;
      doubted = λ tells sound is.
          let here = (g.met.H.Host.lawful c.args.host.now).reads tells in
          let w = waits g at tells in
          let there = held g at tells in
          from_read (IsCommitted c.args.now old.state) old mid new here sound c.barrier.ensures.untouched.stops (c.in-Ok.ensures.sure tells)
          (commits_after c.args.now old mid new here sound w c.barrier.ensures.untouched.stops there (c.clear.ensures.stops tells w.checkpoint there));
      doubt = λ tells is. waits g at tells;
    }
