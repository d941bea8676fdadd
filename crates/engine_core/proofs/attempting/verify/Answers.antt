use Rattle.std.proofs.Common.{◌≡◌, ◌∙◌, inr, Some, None, Err, ap, sym, refl, rules}
use Rattle.std.proofs.Math.Nat.{le_refl}
use Rattle.std.proofs.lemmas.Bool.{true≢false, false≢true}
use Rattle.net_model.specs.NetData.{NetData}
use Rattle.host_core.specs.HostView.{State, Kernel, NoneRefused}
use Rattle.host_core.proofs.lemmas.Counts.{rose_after}
use Rattle.host_core.proofs.lemmas.Moments.{stays}
use Rattle.engine_model.proofs.lemmas.Failing.{open_same}
use Rattle.engine_model.proofs.lemmas.Refusals.{quiet_same, quiet_dumped, quiet_on}
use Rattle.engine_core.proofs.Apart.{done_failed, failed_differs, memory_differs, memory_failed, damaged_differs, damaged_failed, differs_failed}
use Rattle.engine_core.proofs.Says.{differs_why, damaged_why}
use Rattle.engine_core.proofs.attempting.verify.Goals as goal
use Rattle.engine_core.proofs.attempting.verify.Goals.{In-Ok}

pub returns-then-no_verify : goal.returns-then-no_verify
returns-then-no_verify g c = record {
  verified = λ tells is. absurd (true≢false (sym c.if-no_verify.true ∙ is));
  checked = λ honest is. absurd (true≢false (sym c.if-no_verify.true ∙ is));
  missed = λ honest is. tt;
  state = λ tells. refl;
  stops = stays (g.H.Host.told c.args.host.now).stops;
  fault = λ is. absurd (done_failed _ _ is);
  quiet = record { refusals = refl; last = refl };
  compared = λ found is. absurd (done_failed _ _ is);
  says = λ doc start from follows merges saved set. tt;
  dumped = λ is. absurd (true≢false (sym c.if-no_verify.true ∙ is));
  fresh = λ tells is. refl;
  later = le_refl (g.H.Host.told c.args.host.now).faults;
}

-- ---- a network was dumped

quiet : (g : _) (c : In-Ok g) → NoneRefused (g.H.Host.told c.args.host.now).kernel (g.H.Host.told c.dump.new.self).kernel
quiet g c = quiet_dumped (g.H.Host.told c.args.host.now).kernel (g.H.Host.told c.dump.new.self).kernel c.in-Ok.ensures.calls

pub returns-then-same_net : goal.returns-then-same_net
returns-then-same_net g c =
    let same : c.in-Ok.found ≡ c.args.to.now = search (rules, c.if-same_net.ensures.0) in
    record {
      verified = λ tells is. c.in-Ok.ensures.fresh tells ∙ ap (λ (n : NetData). Some n) same;
      checked = λ honest is.
          let tells = g.met.H.Host.honest_tells honest in
          let gave = ap (λ (n : NetData). Some n) same in
          record { fresh = c.in-Ok.ensures.fresh tells ∙ gave; stands = ap (λ (s : State). s.net) (c.dump.ensures.state tells) ∙ c.in-Ok.ensures.net honest ∙ gave };
      missed = λ honest is. tt;
      state = c.dump.ensures.state;
      stops = c.dump.ensures.stops;
      fault = λ is. absurd (done_failed _ _ is);
      quiet = quiet g (goal.at.returns-then-same_net g c).In-Ok;
      compared = λ found is. absurd (done_failed _ _ is);
      says = λ doc start from follows merges saved set. tt;
      dumped = λ is. ap (λ (k : Kernel). k.calls) c.in-Ok.ensures.calls;
      fresh = λ tells is. absurd (false≢true (sym c.if-no_verify.false ∙ is));
      later = c.dump.ensures.cause.later;
    }

pub returns-else-same_net : goal.returns-else-same_net
returns-else-same_net g c =
    let old = g.H.Host.told c.args.host.now in
    let new = g.H.Host.told c.dump.new.self in
    let quiet = quiet g (goal.at.returns-else-same_net g c).In-Ok in
    let other = λ (same : c.in-Ok.found ≡ c.args.to.now). let wrong = c.if-same_net.ensures.1 same in absurd {A = ⊥} (search (rules, wrong)) in
    record {
      verified = λ tells. tt;
      checked = λ honest. tt;
      missed = λ honest is. let e : Some c.in-Ok.found ≡ Some c.args.to.now = sym (c.in-Ok.ensures.net honest) ∙ is in let same : c.in-Ok.found ≡ c.args.to.now = cc in other same;
      state = c.dump.ensures.state;
      stops = c.dump.ensures.stops;
      fault = λ is. absurd (differs_failed _ is);
      quiet = quiet;
      compared = λ found is. c.if-no_verify.false;
      says = λ doc start from follows merges saved set. differs_why g.H.Host.tells doc start from c.args.to.now c.in-Ok.found old new follows merges saved set c.dump.ensures.state quiet other;
      dumped = tt;
      fresh = λ tells is. absurd (false≢true (sym c.if-no_verify.false ∙ is));
      later = c.dump.ensures.cause.later;
    }

-- ---- none was

pub returns-in-Err-Failed : goal.returns-in-Err-Failed
returns-in-Err-Failed g c =
    let old = g.H.Host.told c.args.host.now in
    let new = g.H.Host.told c.dump.new.self in
    let quiet = quiet_same old.kernel new.kernel c.in-Err-Failed.ensures.kernel in
    let rose = c.in-Err-Failed.ensures.cause.failed (ap (λ e. Err e) c.in-Err-Failed.field-0-is) in
    record {
      verified = λ tells. tt;
      checked = λ honest. tt;
      missed = λ honest is. tt;
      state = c.dump.ensures.state;
      stops = c.dump.ensures.stops;
      fault = λ is. rose;
      quiet = quiet;
      compared = λ found is. absurd (failed_differs found is);
      says = λ doc start from follows merges saved set. (quiet_on start.kernel old.kernel new.kernel follows.quiet quiet, rose_after start.faults old.faults new.faults follows.faults rose);
      dumped = tt;
      fresh = λ tells is. absurd (false≢true (sym c.if-no_verify.false ∙ is));
      later = c.dump.ensures.cause.later;
    }

pub returns-in-Err-Damaged : goal.returns-in-Err-Damaged
returns-in-Err-Damaged g c =
    let old = g.H.Host.told c.args.host.now in
    let new = g.H.Host.told c.dump.new.self in
    let quiet = quiet_same old.kernel new.kernel c.in-Err-Damaged.ensures.kernel in
    let none = λ (tells : g.H.Host.tells). c.in-Err-Damaged.ensures.damaged tells (ap (λ e. Err e) c.in-Err-Damaged.field-0-is) in
    let there = g.met.H.Host.lawful c.dump.new.self in
    record {
      verified = λ tells. tt;
      checked = λ honest. tt;
      missed = λ honest is. let e : Some c.args.to.now ≡ None = sym is ∙ none (g.met.H.Host.honest_tells honest) in cc;
      state = c.dump.ensures.state;
      stops = c.dump.ensures.stops;
      fault = λ is. absurd (damaged_failed is);
      quiet = quiet;
      compared = λ found is. absurd (damaged_differs found is);
      says = λ doc start from follows merges saved set. damaged_why g.H.Host.tells doc start old new follows c.dump.ensures.stops.later set c.dump.ensures.state quiet there.stops there.reads none;
      dumped = tt;
      fresh = λ tells is. absurd (false≢true (sym c.if-no_verify.false ∙ is));
      later = c.dump.ensures.cause.later;
    }

pub returns-in-Err-OutOfMemory : goal.returns-in-Err-OutOfMemory
returns-in-Err-OutOfMemory g c =
    let old = g.H.Host.told c.args.host.now in
    let new = g.H.Host.told c.dump.new.self in
    let quiet = quiet_same old.kernel new.kernel c.in-Err-OutOfMemory.ensures.kernel in
    record {
      verified = λ tells. tt;
      checked = λ honest. tt;
      missed = λ honest is. tt;
      state = c.dump.ensures.state;
      stops = c.dump.ensures.stops;
      fault = λ is. absurd (memory_failed is);
      quiet = quiet;
      compared = λ found is. absurd (memory_differs found is);
      says = λ doc start from follows merges saved set. (quiet_on start.kernel old.kernel new.kernel follows.quiet quiet, λ tells. inr (open_same old new (c.dump.ensures.state tells) (set tells)));
      dumped = tt;
      fresh = λ tells is. absurd (false≢true (sym c.if-no_verify.false ∙ is));
      later = c.dump.ensures.cause.later;
    }
