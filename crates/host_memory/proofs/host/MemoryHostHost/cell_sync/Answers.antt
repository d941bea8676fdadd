use Rattle.host_core.specs.HostView.{State}
use Rattle.host_memory.proofs.HostPushes.{sync_keeps, sync_event}
use Rattle.host_memory.proofs.host.MemoryHostHost.cell_sync.Goals as goal

pub returns-clause-kept : goal.returns-clause-kept
returns-clause-kept c =
    let now : State = record { net = c.args.self.now.net; cell = c.args.self.now.cell.items } in
    sync_keeps _ c.counted.result c.sync-is_done.result _ _ now (λ done. (c.counted.ensures.quiet done).0) c.sync-is_done.ensures.record

pub returns-clause-event : goal.returns-clause-event
returns-clause-event c =
    let now : State = record { net = c.args.self.now.net; cell = c.args.self.now.cell.items } in
    sync_event c.counted.result c.sync-is_done.result _ _ now c.counted.ensures.done c.sync-is_done.ensures.record
