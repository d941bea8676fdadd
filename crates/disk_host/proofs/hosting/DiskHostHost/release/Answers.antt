use Rattle.std.proofs.Common.{refl, ap, None, if◌then◌else◌}
use Rattle.call_journal.specs.Area.{kernel_net}
use Rattle.host_core.specs.DiskView.{Areas}
use Rattle.host_core.specs.Stops.{Stays}
use Rattle.host_core.proofs.lemmas.Moments.{seen_steps}
use Rattle.disk_host.specs.Slots.{state_of}
use Rattle.disk_host.proofs.hosting.DiskHostHost.release.Goals as goal

pub returns-clause-untouched : goal.returns-clause-untouched
returns-clause-untouched g c =
    let was = c.release.ensures.untouched in
    record {
      kernel = record {
        kernel = refl;
        settled = λ s. s;
        fresh = λ t. ap (λ (a : Areas). if c.args.self.now.fresh then kernel_net a.kernel else None) (was.areas t);
        net = λ t. ap (λ (a : Areas). kernel_net a.kernel) (was.areas t);
      };
      cell = λ t. ap (λ (a : Areas). a.cell) (was.areas t);
      stops = seen_steps state_of Stays Stays _ _ was.stops (λ r s left is. ap state_of is);
    }
