use Rattle.std.proofs.Common.{◌≡◌, ◌∙◌, inl, inr, Err, ap, sym}
use Rattle.net_model.specs.NetData.{NetData}
use Rattle.host_core.specs.HostView.{Kernel, State}
use Rattle.engine_model.specs.Compared.{IsSeen}
use Rattle.engine_model.specs.Failing.{IsUnbegun}
use Rattle.engine_model.specs.Refusals.{NoCallMade}
use Rattle.engine_restore.proofs.Readies.{host_failed, no_memory, no_network}
use Rattle.engine_restore.proofs.restoring.dump_net.Goals as goal
use Rattle.engine_restore.proofs.restoring.dump_net.Goals.{After-dump}

begun : (g : _) (c : After-dump g) → NoCallMade (g.H.Host.told c.args.host.now).kernel (g.H.Host.told c.dump.new.self).kernel → IsUnbegun g.H.Host.tells (g.H.Host.told c.args.host.now) (g.H.Host.told c.dump.new.self)
begun g c unmade = record { stops = c.dump.ensures.stops; same = c.dump.ensures.state; unmade = unmade }

-- a dump that failed gives nothing else
still : (g : _) (c : After-dump g) → (g.H.Host.tells → (g.H.Host.told c.dump.new.self).fresh ≡ (g.H.Host.told c.args.host.now).fresh) → g.H.Host.honest → (net : NetData) → IsSeen net (g.H.Host.told c.args.host.now) → IsSeen net (g.H.Host.told c.dump.new.self)
still g c stale honest net seen =
    let tells = g.met.H.Host.honest_tells honest in
    record { fresh = stale tells ∙ seen.fresh; stands = ap (λ (s : State). s.net) (c.dump.ensures.state tells) ∙ seen.stands }

pub returns-in-Ok : goal.returns-in-Ok
returns-in-Ok g c = record {
  dumped = record {
    stands = c.in-Ok.ensures.net;
    found = c.in-Ok.ensures.found;
    settled = c.in-Ok.ensures.settles;
    fresh = c.in-Ok.ensures.fresh;
    zero = ap (λ (k : Kernel). k.calls) c.in-Ok.ensures.calls;
  };
  fault = tt;
  unbegun = begun g (goal.at.returns-in-Ok g c).After-dump (inr c.in-Ok.ensures.calls);
  seen = λ honest net seen.
      let tells = g.met.H.Host.honest_tells honest in
      record { fresh = c.in-Ok.ensures.fresh tells ∙ sym (c.in-Ok.ensures.net honest) ∙ seen.stands; stands = ap (λ (s : State). s.net) (c.dump.ensures.state tells) ∙ seen.stands };
  later = c.dump.ensures.cause.later;
}

pub returns-in-Err-Failed : goal.returns-in-Err-Failed
returns-in-Err-Failed g c =
    let one = begun g (goal.at.returns-in-Err-Failed g c).After-dump (inl c.in-Err-Failed.ensures.kernel) in
    record {
      dumped = tt;
      fault = host_failed g.H.Host.tells g.H.Host.honest g.met.H.Host.honest_tells (g.H.Host.told c.args.host.now) (g.H.Host.told c.dump.new.self) one (c.in-Err-Failed.ensures.cause.failed (ap (λ e. Err e) c.in-Err-Failed.field-0-is));
      unbegun = one;
      seen = λ honest net seen. still g (goal.at.returns-in-Err-Failed g c).After-dump c.in-Err-Failed.ensures.stale honest net seen;
      later = c.dump.ensures.cause.later;
    }

pub returns-in-Err-Damaged : goal.returns-in-Err-Damaged
returns-in-Err-Damaged g c =
    let one = begun g (goal.at.returns-in-Err-Damaged g c).After-dump (inl c.in-Err-Damaged.ensures.kernel) in
    let old = g.H.Host.told c.args.host.now in
    record {
      dumped = tt;
      fault = no_network g.H.Host.tells g.H.Host.honest g.met.H.Host.honest_tells old (g.H.Host.told c.dump.new.self) one (g.met.H.Host.lawful c.args.host.now).reads c.requires
          (λ tells. c.in-Err-Damaged.ensures.damaged tells (ap (λ e. Err e) c.in-Err-Damaged.field-0-is));
      unbegun = one;
      seen = λ honest net seen. still g (goal.at.returns-in-Err-Damaged g c).After-dump c.in-Err-Damaged.ensures.stale honest net seen;
      later = c.dump.ensures.cause.later;
    }

pub returns-in-Err-OutOfMemory : goal.returns-in-Err-OutOfMemory
returns-in-Err-OutOfMemory g c =
    let one = begun g (goal.at.returns-in-Err-OutOfMemory g c).After-dump (inl c.in-Err-OutOfMemory.ensures.kernel) in
    record {
      dumped = tt;
      fault = no_memory g.H.Host.tells g.H.Host.honest g.met.H.Host.honest_tells (g.H.Host.told c.args.host.now) (g.H.Host.told c.dump.new.self) one;
      unbegun = one;
      seen = λ honest net seen. still g (goal.at.returns-in-Err-OutOfMemory g c).After-dump c.in-Err-OutOfMemory.ensures.stale honest net seen;
      later = c.dump.ensures.cause.later;
    }
