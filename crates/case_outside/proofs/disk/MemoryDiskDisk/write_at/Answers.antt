use Rattle.std.proofs.Common.{◌∙◌, refl, sym}
use Rattle.host_core.specs.DiskView.{Areas}
use Rattle.case_outside.proofs.DiskPushes.{kernel_pushed, cell_pushed, write_event}
use Rattle.case_outside.proofs.disk.MemoryDiskDisk.write_at.Goals as goal

pub returns-then-area-number-clause-stops : goal.returns-then-area-number-clause-stops
returns-then-area-number-clause-stops c = kernel_pushed _ _ _ _ _ _ _ (c.if-area-number.true ∙ c.number.ensures) c.write-is_done.ensures.record refl c.write-is_done.ensures.torn

pub returns-else-area-number-clause-stops : goal.returns-else-area-number-clause-stops
returns-else-area-number-clause-stops c =
    cell_pushed _ _ _ _ _ _ _ (λ is. c.if-area-number.false (is ∙ sym c.number.ensures)) c.write-is_done-else-area-number.ensures.record refl c.write-is_done-else-area-number.ensures.torn

pub returns-then-area-number-clause-event : goal.returns-then-area-number-clause-event
returns-then-area-number-clause-event c =
    let old : Areas = record { kernel = c.args.self.now.kernel.items; cell = c.args.self.now.cell.items } in
    let new : Areas = record { kernel = c.write-is_done.new.held.items; cell = c.args.self.now.cell.items } in
    write_event c.counted.result c.write-is_done.result _ _ _ old.kernel new.kernel _ _ old new c.counted.ensures.done c.write-is_done.ensures.recorded c.write-is_done.ensures.record

pub returns-else-area-number-clause-event : goal.returns-else-area-number-clause-event
returns-else-area-number-clause-event c =
    let old : Areas = record { kernel = c.args.self.now.kernel.items; cell = c.args.self.now.cell.items } in
    let new : Areas = record { kernel = c.args.self.now.kernel.items; cell = c.write-is_done-else-area-number.new.held.items } in
    write_event c.counted-else-area-number.result c.write-is_done-else-area-number.result _ _ _ old.cell new.cell _ _ old new c.counted-else-area-number.ensures.done c.write-is_done-else-area-number.ensures.recorded c.write-is_done-else-area-number.ensures.record
