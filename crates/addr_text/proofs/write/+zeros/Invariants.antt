use Rattle.std.proofs.Common.{length}
use Rattle.addr_text.proofs.write.+zeros.Given as goal

abbrev pub decreases-zeros : goal.decreases-zeros
decreases-zeros l = length l.fields.now
