-- What is said of one command gives all that is promised of it.
use Rattle.top_model.specs.Answered.{Answered}
use Rattle.top_model.specs.Commands.{Promised}
use Rattle.top_model.specs.Promises.{StandsApart}
use Rattle.top_model.specs.Runs.{Run}
use Rattle.top_model.proofs.lemmas.AsDocument.{as_document}
use Rattle.top_model.proofs.lemmas.Headlines.{headline}
use Rattle.top_model.proofs.lemmas.Promised.{complete, done_only}
use Rattle.top_model.proofs.lemmas.Reports.{refused_exactly, commit_takes_none, statuses}
use Rattle.top_model.proofs.lemmas.Simulating.{simulated_from}
use Rattle.top_model.proofs.lemmas.Spared.{undisturbed}
use Rattle.top_model.proofs.lemmas.Written.{texts}

pub promised : (r : Run) → Answered r → StandsApart r → Promised r
promised r answered apart = record {
  headline = headline r answered;
  answered = answered;
  complete = complete r answered;
  done = done_only r answered;
  refused = refused_exactly r answered;
  memory = commit_takes_none r answered;
  status = statuses r answered;
  policies = as_document r answered;
  texts = texts r answered;
  undisturbed = undisturbed r answered;
  simulated = simulated_from r answered;
  apart = apart;
}
