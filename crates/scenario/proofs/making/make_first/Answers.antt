use Rattle.std.proofs.Common.{refl, sym, subst, ap}
use Rattle.std.specs.Prelude.{Err}
use Rattle.host_core.specs.HostView.{IsFirst, Kernel}
use Rattle.scenario.proofs.Answers.{first_is}
use Rattle.scenario.proofs.Says.{make_says}
use Rattle.scenario.proofs.making.make_first.Goals as goal

pub make-requires : goal.make-requires
make-requires g c = subst IsFirst (sym c.in-Ok.ensures) (first_is c.args.devices.now.items c.requires)

pub returns-clause-says : goal.returns-clause-says
returns-clause-says g c =
    make_says g.H.Host.tells (g.H.Host.told c.args.host.now) (g.H.Host.told c.make.new.self) c.in-Err-make.fault
    (λ e. c.in-Err-make.ensures.cause.failed (ap (λ f. Err f) e)) (λ t e. c.in-Err-make.ensures.exists t (ap (λ f. Err f) e)) c.in-Err-make.ensures.stays (λ t e. c.in-Err-make.ensures.same t (ap (λ f. Err f) e))

pub returns-in-Ok-make-clause-follows : goal.returns-in-Ok-make-clause-follows
returns-in-Ok-make-clause-follows g c = record {
  faults = c.make.ensures.cause.later;
  quiet = record { refusals = ap (λ (k : Kernel). k.refusals) c.make.ensures.kernel; last = ap (λ (k : Kernel). k.last) c.make.ensures.kernel };
  moment = λ told. (c.make.ensures.stops told).later;
}
