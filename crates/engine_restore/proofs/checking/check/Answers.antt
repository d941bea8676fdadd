use Rattle.std.proofs.Common.{◌≡◌, ◌∙◌, ◌≤◌, inl, inr, refl, sym, ap, subst, ℕ, List, Err, Some}
use Rattle.std.proofs.lemmas.Result.{on_ok_weaker}
use Rattle.std.specs.Prelude.{IsSome}
use Rattle.host_core.proofs.lemmas.Counts.{rose_after}
use Rattle.host_core.specs.HostView.{State}
use Rattle.host_core.specs.Stops.{Steps, Stays}
use Rattle.checkpoint_cell.specs.Cell.{cell_of}
use Rattle.checkpoint_cell.specs.Loaded.{IsBad, IsLoaded}
use Rattle.checkpoint_cell.specs.Settled.{standing}
use Rattle.engine_model.specs.Failing.{IsUnbegun}
use Rattle.engine_model.specs.Refusals.{NoCallMade}
use Rattle.engine_model.proofs.lemmas.Failing.{looked, unbegun_on}
use Rattle.engine_model.proofs.lemmas.Restores.{not_bad}
use Rattle.engine_restore.proofs.Compares.{bad_told, none_told, damaged_as, stays_on, says_compared, answers_compared, left_before, left_as_read, exit_compared, bare_left, sound_as}
use Rattle.engine_restore.proofs.Readies.{later_on}
use Rattle.engine_restore.proofs.checking.check.Goals as goal
use Rattle.engine_restore.proofs.checking.check.Goals.{After-load, After-dump, In-Ok-load}

-- ---- nothing is changed

first : (g : _) (c : After-load g) → IsUnbegun g.H.Host.tells (g.H.Host.told c.args.host.now) (g.H.Host.told c.load.new.host)
first g c =
    let tells = g.H.Host.tells in
    let old = g.H.Host.told c.args.host.now in
    let mid = g.H.Host.told c.barrier.new.host in
    let new = g.H.Host.told c.load.new.host in
    unbegun_on tells old mid new (looked tells old mid c.barrier.ensures.untouched) (looked tells mid new c.load.ensures.untouched)

both : (g : _) (c : After-dump g) → NoCallMade (g.H.Host.told c.load.new.host).kernel (g.H.Host.told c.dump.new.self).kernel → IsUnbegun g.H.Host.tells (g.H.Host.told c.args.host.now) (g.H.Host.told c.dump.new.self)
both g c unmade =
    unbegun_on g.H.Host.tells (g.H.Host.told c.args.host.now) (g.H.Host.told c.load.new.host) (g.H.Host.told c.dump.new.self) (first g (goal.at.After-dump g c).After-load)
    (record { stops = c.dump.ensures.stops; same = c.dump.ensures.state; unmade = unmade })

-- the count of faults never falls
later_load : (g : _) (c : After-load g) → (g.H.Host.told c.args.host.now).faults ≤ (g.H.Host.told c.load.new.host).faults
later_load g c = later_on (g.H.Host.told c.args.host.now).faults (g.H.Host.told c.barrier.new.host).faults (g.H.Host.told c.load.new.host).faults c.barrier.ensures.cause.later c.load.ensures.cause.later

later_dump : (g : _) (c : After-dump g) → (g.H.Host.told c.args.host.now).faults ≤ (g.H.Host.told c.dump.new.self).faults
later_dump g c = later_on (g.H.Host.told c.args.host.now).faults (g.H.Host.told c.load.new.host).faults (g.H.Host.told c.dump.new.self).faults (later_load g (goal.at.After-dump g c).After-load) c.dump.ensures.cause.later

-- ---- the answers

pub returns-in-Err : goal.returns-in-Err
returns-in-Err g c =
    let old = g.H.Host.told c.args.host.now in
    let new = g.H.Host.told c.barrier.new.host in
    let one = looked g.H.Host.tells old new c.barrier.ensures.untouched in
    record {
      says = c.in-Err.ensures.cause.failed;
      answer = λ honest. c.in-Err.ensures.cause.failed;
      sound = λ honest. tt;
      state = one.same;
      stops = one.stops;
      exit = λ honest sound. left_before old new one.stops;
      unmade = one.unmade;
      later = c.barrier.ensures.cause.later;
    }

pub returns-in-Err-Failed : goal.returns-in-Err-Failed
returns-in-Err-Failed g c =
    let at = (goal.at.returns-in-Err-Failed g c).After-load in
    let old = g.H.Host.told c.args.host.now in
    let mid = g.H.Host.told c.barrier.new.host in
    let new = g.H.Host.told c.load.new.host in
    let one = first g at in
    let rose = rose_after old.faults mid.faults new.faults c.barrier.ensures.cause.later (c.in-Err-Failed.ensures.cause.failed (ap (λ e. Err e) c.in-Err-Failed.field-0-is)) in
    record {
      says = rose;
      answer = λ honest. rose;
      sound = λ honest. tt;
      state = one.same;
      stops = one.stops;
      exit = λ honest sound. left_before old new one.stops;
      unmade = one.unmade;
      later = later_load g at;
    }

pub returns-in-Err-OutOfMemory : goal.returns-in-Err-OutOfMemory
returns-in-Err-OutOfMemory g c =
    let at = (goal.at.returns-in-Err-OutOfMemory g c).After-load in
    let one = first g at in
    record {
      says = tt;
      answer = λ honest. tt;
      sound = λ honest. tt;
      state = one.same;
      stops = one.stops;
      exit = λ honest sound. left_before (g.H.Host.told c.args.host.now) (g.H.Host.told c.load.new.host) one.stops;
      unmade = one.unmade;
      later = later_load g at;
    }

pub returns-in-Err-Failed-dump : goal.returns-in-Err-Failed-dump
returns-in-Err-Failed-dump g c =
    let at = (goal.at.returns-in-Err-Failed-dump g c).After-dump in
    let old = g.H.Host.told c.args.host.now in
    let mid = g.H.Host.told c.load.new.host in
    let new = g.H.Host.told c.dump.new.self in
    let one = both g at (inl c.in-Err-Failed-dump.ensures.kernel) in
    let rose = rose_after old.faults mid.faults new.faults (later_load g (goal.at.After-dump g at).After-load) (c.in-Err-Failed-dump.ensures.cause.failed (ap (λ e. Err e) c.in-Err-Failed-dump.field-0-is)) in
    record {
      says = rose;
      answer = λ honest. rose;
      sound = λ honest. tt;
      state = one.same;
      stops = one.stops;
      exit = λ honest sound. left_before old new one.stops;
      unmade = one.unmade;
      later = later_dump g at;
    }

pub returns-in-Err-OutOfMemory-dump : goal.returns-in-Err-OutOfMemory-dump
returns-in-Err-OutOfMemory-dump g c =
    let at = (goal.at.returns-in-Err-OutOfMemory-dump g c).After-dump in
    let one = both g at (inl c.in-Err-OutOfMemory-dump.ensures.kernel) in
    record {
      says = tt;
      answer = λ honest. tt;
      sound = λ honest. tt;
      state = one.same;
      stops = one.stops;
      exit = λ honest sound. left_before (g.H.Host.told c.args.host.now) (g.H.Host.told c.dump.new.self) one.stops;
      unmade = one.unmade;
      later = later_dump g at;
    }

-- the checkpoint that was loaded is the one that stood
loaded : (g : _) (c : In-Ok-load g) → g.H.Host.tells → IsLoaded c.in-Ok-load.pending (cell_of (g.H.Host.told c.args.host.now).state.cell)
loaded g c tells = subst (λ (b : List ℕ). IsLoaded c.in-Ok-load.pending (cell_of b)) (c.barrier.ensures.untouched.cell tells) (c.in-Ok-load.ensures.loaded tells)

pub returns-in-Err-Damaged : goal.returns-in-Err-Damaged
returns-in-Err-Damaged g c =
    let at = (goal.at.returns-in-Err-Damaged g c).After-load in
    let old = g.H.Host.told c.args.host.now in
    let one = first g at in
    let bad = λ (tells : g.H.Host.tells). subst (λ (b : List ℕ). IsBad (cell_of b)) (c.barrier.ensures.untouched.cell tells) (c.in-Err-Damaged.ensures.damaged tells (ap (λ e. Err e) c.in-Err-Damaged.field-0-is)) in
    let told = λ (tells : g.H.Host.tells). bad_told old.state.net (cell_of old.state.cell) (bad tells) ∙ damaged_as 1 c.number.result (sym c.number.ensures) in
    record {
      says = told;
      answer = λ honest. told (g.met.H.Host.honest_tells honest);
      sound = λ honest. tt;
      state = one.same;
      stops = one.stops;
      exit = λ honest sound.
          let tells = g.met.H.Host.honest_tells honest in
          absurd (not_bad _ old.state refl (sound.fit old.state ((g.met.H.Host.lawful c.args.host.now).reads tells)) (bad tells));
      unmade = one.unmade;
      later = later_load g at;
    }

pub returns-in-Err-Damaged-dump : goal.returns-in-Err-Damaged-dump
returns-in-Err-Damaged-dump g c =
    let at = (goal.at.returns-in-Err-Damaged-dump g c).After-dump in
    let old = g.H.Host.told c.args.host.now in
    let one = both g at (inl c.in-Err-Damaged-dump.ensures.kernel) in
    let none = λ (tells : g.H.Host.tells).
    sym (c.barrier.ensures.untouched.kernel.net tells) ∙ sym (c.load.ensures.untouched.kernel.net tells) ∙ c.in-Err-Damaged-dump.ensures.damaged tells (ap (λ e. Err e) c.in-Err-Damaged-dump.field-0-is) in
    let told = λ (tells : g.H.Host.tells).
    none_told c.in-Ok-load.pending old.state.net (cell_of old.state.cell) (none tells) (loaded g (goal.at.returns-in-Err-Damaged-dump g c).In-Ok-load tells) ∙ damaged_as 0 c.number-in-Err-Damaged-dump.result (sym c.number-in-Err-Damaged-dump.ensures) in
    record {
      says = told;
      answer = λ honest. told (g.met.H.Host.honest_tells honest);
      sound = λ honest. tt;
      state = one.same;
      stops = one.stops;
      exit = λ honest sound.
          let tells = g.met.H.Host.honest_tells honest in
          let here = (g.met.H.Host.lawful c.args.host.now).reads tells in
          left_as_read old (g.H.Host.told c.dump.new.self) one.stops (λ s l. let from = one.stops.now s l in ap standing from.2 ∙ bare_left old sound here (none tells) from.0 from.1);
      unmade = one.unmade;
      later = later_dump g at;
    }

pub returns : goal.returns
returns g c =
    let at = (goal.at.returns g c).After-dump in
    let old = g.H.Host.told c.args.host.now in
    let first = g.H.Host.told c.barrier.new.host in
    let mid = g.H.Host.told c.load.new.host in
    let new = g.H.Host.told c.dump.new.self in
    let pending = c.in-Ok-load.pending in
    let found = c.in-Ok-dump.found in
    let seen = c.in-Ok.seen in
    let is_loaded = λ (t : g.H.Host.tells). loaded g (goal.at.returns g c).In-Ok-load t in
    let one = both g at (inr c.in-Ok-dump.ensures.calls) in
    let behind : Steps Stays first.stops new.stops = stays_on first.stops mid.stops new.stops c.load.ensures.untouched.stops c.dump.ensures.stops in
    record {
      says = says_compared g.H.Host.tells old new pending found seen is_loaded c.in-Ok.ensures.seen c.in-Ok-dump.ensures.fresh
          (λ t. subst IsSome (c.load.ensures.untouched.kernel.net t ∙ c.barrier.ensures.untouched.kernel.net t) (c.in-Ok-dump.ensures.found t)) c.compared.result c.compared.ensures.compared;
      answer = λ honest.
          let t = g.met.H.Host.honest_tells honest in
          answers_compared old new pending found seen (is_loaded t) (c.in-Ok.ensures.seen t) (sym (c.barrier.ensures.untouched.kernel.net t) ∙ sym (c.load.ensures.untouched.kernel.net t) ∙ c.in-Ok-dump.ensures.net honest)
          c.compared.result c.compared.ensures.compared;
      sound = λ honest.
          let t = g.met.H.Host.honest_tells honest in
          let nets = (g.met.H.Host.lawful c.dump.new.self).no_doubt t c.in-Ok-dump.ensures.settles in
          let state = c.dump.ensures.state t in
          let net : new.state.net ≡ Some found = ap (λ (s : State). s.net) state ∙ c.in-Ok-dump.ensures.net honest in
          let cell : new.state.cell ≡ first.state.cell = ap (λ (s : State). s.cell) state ∙ c.load.ensures.untouched.cell t in
          let there : IsLoaded pending (cell_of new.state.cell) = subst (λ (b : List ℕ). IsLoaded pending (cell_of b)) (sym cell) (c.in-Ok-load.ensures.loaded t) in
          on_ok_weaker c.compared.result (λ same filled. sound_as pending found new same
          (λ s l. let from = behind.now s l in (nets s l ∙ net, ap (λ (p : State). p.cell) from.2 ∙ (c.in-Ok.ensures.sure t).sure from.0 from.1 ∙ sym cell)) there filled) c.compared.ensures.same;
      state = one.same;
      stops = one.stops;
      exit = λ honest sound.
          let t = g.met.H.Host.honest_tells honest in
          let nets = (g.met.H.Host.lawful c.dump.new.self).no_doubt t c.in-Ok-dump.ensures.settles in
          let net : new.state.net ≡ old.state.net = ap (λ (s : State). s.net) (one.same t) in
          exit_compared old new one.stops (λ s l.
          let from = behind.now s l in
          let cell : s.cell ≡ old.state.cell = ap (λ (p : State). p.cell) from.2 ∙ (c.in-Ok.ensures.sure t).sure from.0 from.1 ∙ c.barrier.ensures.untouched.cell t in
          λ i. record { net = (nets s l ∙ net) i; cell = ap cell_of cell i }) seen _ _ c.compared.result c.compared.ensures.compared;
      unmade = one.unmade;
      later = later_dump g at;
    }
