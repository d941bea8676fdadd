use Rattle.std.proofs.Common.{◌-◌, length}
use Rattle.file_disk.proofs.WriteLoop.{Writing}
use Rattle.file_disk.proofs.write.write_whole.Given as goal

abbrev pub invariant-loop-done : goal.invariant-loop-done
invariant-loop-done g l = Writing g.R.RawDisk.tells l.area l.at (g.R.RawDisk.told l.initial.raw) (g.R.RawDisk.told l.raw) l.bytes l.done

abbrev pub decreases-loop-done : goal.decreases-loop-done
decreases-loop-done g l = length l.bytes - l.done
