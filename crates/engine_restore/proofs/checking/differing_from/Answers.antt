use Rattle.std.proofs.lemmas.Result.{IfOk-weaker}
use Rattle.engine_restore.proofs.Compares.{same_found}
use Rattle.engine_restore.proofs.checking.differing_from.Goals as goal

pub returns-in-Some-clause-same : goal.returns-in-Some-clause-same
returns-in-Some-clause-same c =
    IfOk-weaker c.differing.result _ _ (same_found c.args.pending.now c.in-Some.pending c.args.found.now c.in-Some.is c.laws.ensures.net c.laws-in-Some.ensures.net) c.differing.ensures
