use Rattle.shown_states.proofs.Networks.{first_stays, target_printable, target_stations, merged_stays}
use Rattle.shown_states.proofs.Orders.{order_leaves, stops_printable, reached_printable}
use Rattle.shown_states.proofs.Read.{words_right}
use Rattle.shown_states.proofs.laws.state_laws.Goals as goal

pub returns-clause-first : goal.returns-clause-first
returns-clause-first c = first_stays

pub returns-clause-printable : goal.returns-clause-printable
returns-clause-printable c = λ net doc p h fits. target_printable net doc fits p h

pub returns-clause-stations : goal.returns-clause-stations
returns-clause-stations c = λ net doc h fits. target_stations net doc fits h

pub returns-clause-merged : goal.returns-clause-merged
returns-clause-merged c = merged_stays c.merge_laws.ensures.valid

pub returns-clause-kept : goal.returns-clause-kept
returns-clause-kept c = order_leaves c.merge_laws.ensures.valid

pub returns-clause-stopped : goal.returns-clause-stopped
returns-clause-stopped c = stops_printable c.merge_laws.ensures.valid

pub returns-clause-read : goal.returns-clause-read
returns-clause-read c = words_right

pub returns-clause-reached : goal.returns-clause-reached
returns-clause-reached c = reached_printable c.merge_laws.ensures.valid
