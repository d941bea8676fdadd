use Rattle.std.proofs.Common.{length}
use Rattle.host_memory.proofs.touch.+undone.Given as goal

abbrev pub decreases-undone : goal.decreases-undone
decreases-undone g l = length l.events.now
