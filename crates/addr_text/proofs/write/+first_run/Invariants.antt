use Rattle.std.proofs.Common.{length}
use Rattle.addr_text.proofs.write.+first_run.Given as goal

abbrev pub decreases-first_run : goal.decreases-first_run
decreases-first_run l = length l.fields.now
