use Rattle.std.proofs.Common.{refl, ap, ℕ, List, None, if◌then◌else◌}
use Rattle.host_core.proofs.lemmas.Moments.{seen_steps}
use Rattle.disk_host.specs.Slots.{state_of}
use Rattle.call_journal.specs.Area.{kernel_net}
use Rattle.disk_host.proofs.hosting.DiskHostHost.cell_write.Goals as goal

pub returns-clause-stops : goal.returns-clause-stops
returns-clause-stops g c = seen_steps state_of _ _ _ _ c.write_at.ensures.stops (λ r s left torn. record { net = ap kernel_net torn.same; cell = torn.torn })

pub returns-clause-kernel : goal.returns-clause-kernel
returns-clause-kernel g c = record {
  kernel = refl;
  settled = λ s. s;
  fresh = λ t. ap (λ (area : List ℕ). if c.args.self.now.fresh then kernel_net area else None) (c.write_at.ensures.torn t).same;
  net = λ t. ap kernel_net (c.write_at.ensures.torn t).same;
}
