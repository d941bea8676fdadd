use Rattle.std.proofs.Common.{length}
use Rattle.host_memory.proofs.touch.+spoil_written.Given as goal

abbrev pub decreases-spoil_written : goal.decreases-spoil_written
decreases-spoil_written g l = length l.events.now
