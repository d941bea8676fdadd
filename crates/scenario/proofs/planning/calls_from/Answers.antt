use Rattle.std.proofs.Common.{ap}
use Rattle.std.specs.Prelude.{Err}
use Rattle.scenario.proofs.Says.{no_merge}
use Rattle.scenario.proofs.planning.calls_from.Goals as goal

pub returns-in-Err-clause-fails : goal.returns-in-Err-clause-fails
returns-in-Err-clause-fails c = no_merge c.args.doc.now c.args.from.now c.in-Err.fault (λ r e. c.in-Err.ensures.refused r (ap (λ f. Err f) e))
