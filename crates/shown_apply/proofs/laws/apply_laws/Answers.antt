use Rattle.shown_apply.specs.Laws.{state_text, state_line}
use Rattle.shown_apply.proofs.Leaves.{leaves_network}
use Rattle.shown_apply.proofs.ReadAgain.{yaml_shown, shown_same, changes_nothing}
use Rattle.shown_apply.proofs.ReadLine.{line_shown}
use Rattle.shown_apply.proofs.laws.apply_laws.Goals as goal

pub returns-clause-yaml : goal.returns-clause-yaml
returns-clause-yaml c = yaml_shown c.printing_laws.ensures.maps c.reading_laws.ensures.text_complete c.reading_laws-2.ensures.answer

pub returns-clause-json : goal.returns-clause-json
returns-clause-json c = line_shown c.document_laws.ensures.sorted c.document_laws.ensures.document c.reading_laws-2.ensures.whole c.reading_laws-2.ensures.answer

pub returns-clause-shown : goal.returns-clause-shown
returns-clause-shown c = shown_same c.shown_laws.ensures.same

pub returns-clause-same : goal.returns-clause-same
returns-clause-same c =
    let reads = yaml_shown c.printing_laws.ensures.maps c.reading_laws.ensures.text_complete c.reading_laws-2.ensures.answer in
    changes_nothing state_text reads (shown_same c.shown_laws.ensures.same)

pub returns-clause-same_json : goal.returns-clause-same_json
returns-clause-same_json c =
    let reads = line_shown c.document_laws.ensures.sorted c.document_laws.ensures.document c.reading_laws-2.ensures.whole c.reading_laws-2.ensures.answer in
    changes_nothing state_line reads (shown_same c.shown_laws.ensures.same)

pub returns-clause-stays : goal.returns-clause-stays
returns-clause-stays c =
    let reads = yaml_shown c.printing_laws.ensures.maps c.reading_laws.ensures.text_complete c.reading_laws-2.ensures.answer in
    leaves_network state_text (changes_nothing state_text reads (shown_same c.shown_laws.ensures.same))

pub returns-clause-stays_json : goal.returns-clause-stays_json
returns-clause-stays_json c =
    let reads = line_shown c.document_laws.ensures.sorted c.document_laws.ensures.document c.reading_laws-2.ensures.whole c.reading_laws-2.ensures.answer in
    leaves_network state_line (changes_nothing state_line reads (shown_same c.shown_laws.ensures.same))
