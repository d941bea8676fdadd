use Rattle.std.proofs.Common.{refl, ap, None, if◌then◌else◌}
use Rattle.std.proofs.lemmas.Result.{on_err_weaker}
use Rattle.call_journal.specs.Area.{kernel_net}
use Rattle.host_core.specs.DiskView.{Areas}
use Rattle.host_core.specs.Stops.{Stays, Keeps, seen_as}
use Rattle.host_core.proofs.lemmas.Moments.{seen_steps}
use Rattle.disk_host.specs.Slots.{state_of}
use Rattle.disk_host.proofs.hosting.DiskHostHost.cell_sync.Goals as goal

pub returns-clause-untouched : goal.returns-clause-untouched
returns-clause-untouched g c =
    let was = c.sync.ensures.untouched in
    record {
      kernel = record {
        kernel = refl;
        settled = λ s. s;
        fresh = λ t. ap (λ (a : Areas). if c.args.self.now.fresh then kernel_net a.kernel else None) (was.areas t);
        net = λ t. ap (λ (a : Areas). kernel_net a.kernel) (was.areas t);
      };
      cell = λ t. ap (λ (a : Areas). a.cell) (was.areas t);
      stops = seen_steps state_of Stays Stays _ _ was.stops (λ r s left is. ap state_of is);
    }

pub returns-clause-kept : goal.returns-clause-kept
returns-clause-kept g c = λ t.
    let below = (g.D.Disk.told c.args.self.now.disk).stops in
    let below_then = (g.D.Disk.told c.sync.new.self).stops in
    let seen : Keeps below below_then → Keeps (seen_as state_of below) (seen_as state_of below_then) = λ keeps b left. (left.0, keeps left.0 left.1, left.2) in
    on_err_weaker c.sync.result seen (c.sync.ensures.kept t)
