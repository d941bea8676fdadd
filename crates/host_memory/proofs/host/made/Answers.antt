use Rattle.host_memory.proofs.host.made.Goals as goal

pub returns-in-Ok-clause-consistent : goal.returns-in-Ok-clause-consistent
returns-in-Ok-clause-consistent c = c.in-Ok.ensures.made.consistent
