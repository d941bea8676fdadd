use Rattle.std.proofs.Common.{length}
use Rattle.host_memory.proofs.touch.+synced.Given as goal

abbrev pub decreases-synced : goal.decreases-synced
decreases-synced g l = length l.events.now
