use Rattle.std.proofs.Common.{sym, ◌∙◌}
use Rattle.route_merge.proofs.Indexed.{first_number}
use Rattle.route_merge.proofs.taken.Taken.free_number.Goals as goal

pub returns-clause-number : goal.returns-clause-number
returns-clause-number c = rw (← c.self.view_is) (first_number c.self.inside.rules.items c.self.inside.numbers c.loop-number.number c.self.invariant.has_number (sym c.contains.ensures ∙ c.loop-number-test.false) c.loop-number.invariant.0 c.loop-number.invariant.1)
