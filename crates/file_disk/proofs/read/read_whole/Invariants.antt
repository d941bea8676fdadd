use Rattle.std.proofs.Common.{◌-◌, length}
use Rattle.file_disk.proofs.ReadLoop.{Reading}
use Rattle.file_disk.proofs.read.read_whole.Given as goal

abbrev pub invariant-loop-done : goal.invariant-loop-done
invariant-loop-done g l = Reading g.R.RawDisk.tells l.area l.at (g.R.RawDisk.told l.initial.raw) (g.R.RawDisk.told l.raw) l.initial.buf l.buf l.done

abbrev pub decreases-loop-done : goal.decreases-loop-done
decreases-loop-done g l = length l.initial.buf - l.done
