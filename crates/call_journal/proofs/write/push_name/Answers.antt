use Rattle.std.proofs.lemmas.Result.{on_ok_weaker}
use Rattle.net_image.proofs.lemmas.Fitting.{names}
use Rattle.call_journal.proofs.write.push_name.Goals as goal

pub returns-clause-fits : goal.returns-clause-fits
returns-clause-fits c = on_ok_weaker c.put_name.result (λ there. (names c.args.of.now c.laws.ensures).fits) c.put_name.ensures.fits
