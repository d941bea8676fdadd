use Rattle.policy_grammar.proofs.Sound.{sound}
use Rattle.policy_grammar.proofs.Complete.{complete}
use Rattle.policy_grammar.proofs.Places.{braces, place}
use Rattle.policy_grammar.proofs.laws.grammar_laws.Goals as goal

pub returns-clause-sound : goal.returns-clause-sound
returns-clause-sound c = sound

pub returns-clause-complete : goal.returns-clause-complete
returns-clause-complete c = complete

pub returns-clause-braces : goal.returns-clause-braces
returns-clause-braces c = braces

pub returns-clause-place : goal.returns-clause-place
returns-clause-place c = place
