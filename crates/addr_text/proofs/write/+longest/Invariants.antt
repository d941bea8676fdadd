use Rattle.std.proofs.Common.{length}
use Rattle.addr_text.proofs.write.+longest.Given as goal

abbrev pub decreases-longest : goal.decreases-longest
decreases-longest l = length l.fields.now
