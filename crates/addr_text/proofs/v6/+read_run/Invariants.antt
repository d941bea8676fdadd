use Rattle.addr_text.proofs.v6.+read_run.Given as goal

abbrev pub decreases-read_run : goal.decreases-read_run
decreases-read_run l = l.room
