use Rattle.addr_text.proofs.dotted.+read_octets.Given as goal

abbrev pub decreases-read_octets : goal.decreases-read_octets
decreases-read_octets l = l.more
