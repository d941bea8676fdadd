use Rattle.shown_reading.proofs.Documents.{links_shown, parts_shown, document_shown}
use Rattle.shown_reading.proofs.laws.reading_laws.Goals as goal

pub returns-clause-links : goal.returns-clause-links
returns-clause-links c = links_shown

pub returns-clause-whole : goal.returns-clause-whole
returns-clause-whole c = parts_shown

pub returns-clause-answer : goal.returns-clause-answer
returns-clause-answer c = document_shown
