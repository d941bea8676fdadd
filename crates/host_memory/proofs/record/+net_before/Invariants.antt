use Rattle.std.proofs.Common.{length}
use Rattle.host_memory.proofs.record.+net_before.Given as goal

abbrev pub decreases-net_before : goal.decreases-net_before
decreases-net_before l = length l.events.now
