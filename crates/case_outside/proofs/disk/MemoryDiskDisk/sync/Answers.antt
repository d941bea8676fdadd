use Rattle.host_core.specs.DiskView.{Areas}
use Rattle.case_outside.proofs.DiskPushes.{sync_keeps, sync_event}
use Rattle.case_outside.proofs.disk.MemoryDiskDisk.sync.Goals as goal

pub returns-clause-kept : goal.returns-clause-kept
returns-clause-kept c =
    let now : Areas = record { kernel = c.args.self.now.kernel.items; cell = c.args.self.now.cell.items } in
    sync_keeps _ c.counted.result c.args.area c.sync-is_done.result _ _ now (λ done. (c.counted.ensures.quiet done).0) c.sync-is_done.ensures.record

pub returns-clause-event : goal.returns-clause-event
returns-clause-event c =
    let now : Areas = record { kernel = c.args.self.now.kernel.items; cell = c.args.self.now.cell.items } in
    sync_event c.counted.result c.args.area c.sync-is_done.result _ _ now c.counted.ensures.done c.sync-is_done.ensures.record
