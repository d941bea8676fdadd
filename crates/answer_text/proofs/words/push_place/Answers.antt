use Rattle.std.proofs.Common.{append_assoc, ◌∙◌}
use Rattle.answer_text.proofs.words.push_place.Goals as goal

pub returns-in-Route-clause-added : goal.returns-in-Route-clause-added
returns-in-Route-clause-added c = rw c.in-Route.is (c.push_position.ensures.added ∙ simp append_assoc)

pub returns-in-Rule-clause-added : goal.returns-in-Rule-clause-added
returns-in-Rule-clause-added c = rw c.in-Rule.is (c.push_position-in-Rule.ensures.added ∙ simp append_assoc)
