use Rattle.top_model.proofs.lemmas.Commanding.{promised}
use Rattle.nmstate_top.proofs.run.run_at.Goals as goal

pub returns : goal.returns
returns g c = record { promised = promised _ c.run_one.ensures.answered c.run_one.ensures.apart }
