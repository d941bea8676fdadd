use Rattle.call_journal.proofs.Areas.{area_read, area_found}
use Rattle.call_journal.proofs.lemmas.Versions.{latest_version, first_version}
use Rattle.call_journal.proofs.laws.area_laws.Goals as goal

pub returns : goal.returns
returns c = record { latest = latest_version; first = first_version; read = area_read c.image_laws.ensures; found = area_found c.image_laws.ensures }
