use Rattle.file_disk.proofs.WriteLoop.{torn_on, stops_on, write_on}
use Rattle.file_disk.proofs.write.write_whole.Goals as goal

pub returns-in_err-count-clause-torn : goal.returns-in_err-count-clause-torn
returns-in_err-count-clause-torn g c = torn_on g.R.RawDisk.tells c.args.area c.args.at _ (g.R.RawDisk.told c.loop-done.raw) (g.R.RawDisk.told c.write_some.new.self) c.args.bytes.now c.loop-done.done
    c.loop-done.invariant c.write_some.ensures.torn

pub returns-in_err-count-clause-stops : goal.returns-in_err-count-clause-stops
returns-in_err-count-clause-stops g c = stops_on g.R.RawDisk.tells c.args.area c.args.at _ (g.R.RawDisk.told c.loop-done.raw) (g.R.RawDisk.told c.write_some.new.self) c.args.bytes.now c.loop-done.done
    c.loop-done.invariant c.write_some.ensures.stops

pub returns-then-count-eq0-clause-torn : goal.returns-then-count-eq0-clause-torn
returns-then-count-eq0-clause-torn g c = torn_on g.R.RawDisk.tells c.args.area c.args.at _ (g.R.RawDisk.told c.loop-done.raw) (g.R.RawDisk.told c.write_some.new.self) c.args.bytes.now c.loop-done.done
    c.loop-done.invariant c.write_some.ensures.torn

pub returns-then-count-eq0-clause-stops : goal.returns-then-count-eq0-clause-stops
returns-then-count-eq0-clause-stops g c = stops_on g.R.RawDisk.tells c.args.area c.args.at _ (g.R.RawDisk.told c.loop-done.raw) (g.R.RawDisk.told c.write_some.new.self) c.args.bytes.now c.loop-done.done
    c.loop-done.invariant c.write_some.ensures.stops

pub loop-done-preserved : goal.loop-done-preserved
loop-done-preserved g c =
    let wrote = c.in_ok-count.ensures in
    write_on g.R.RawDisk.tells c.args.area c.args.at _ (g.R.RawDisk.told c.loop-done.raw) (g.R.RawDisk.told c.write_some.new.self) c.args.bytes.now c.loop-done.done c.in_ok-count.count
    c.loop-done.invariant wrote.bound wrote.part wrote.torn wrote.stops
