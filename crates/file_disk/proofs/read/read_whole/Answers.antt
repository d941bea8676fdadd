use Rattle.file_disk.proofs.ReadLoop.{read_on, read_end}
use Rattle.file_disk.proofs.read.read_whole.Goals as goal

pub loop-done-preserved : goal.loop-done-preserved
loop-done-preserved g c =
    let read = c.in_ok-count.ensures in
    read_on g.R.RawDisk.tells c.args.area c.args.at _ (g.R.RawDisk.told c.loop-done.raw) (g.R.RawDisk.told c.read_some.new.self) c.args.buf.now c.loop-done.buf c.read_some.new.buf c.loop-done.done c.in_ok-count.count
    c.loop-done.invariant c.loop-done.auto.buf read.bound read.part read.areas read.stops

pub returns-then-count-eq0-clause-filled : goal.returns-then-count-eq0-clause-filled
returns-then-count-eq0-clause-filled g c =
    read_end g.R.RawDisk.tells c.args.area c.args.at _ (g.R.RawDisk.told c.loop-done.raw) (g.R.RawDisk.told c.read_some.new.self) c.args.buf.now c.loop-done.buf c.read_some.new.buf c.loop-done.done c.in_ok-count.count
    c.loop-done.invariant c.loop-done.auto.buf c.if-count-eq0.true c.in_ok-count.ensures.part
