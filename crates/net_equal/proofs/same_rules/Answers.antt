use Rattle.std.proofs.lemmas.Slice.Eq.{slice_eq-Decides}
use Rattle.net_equal.proofs.SameItems.{rule_decides}
use Rattle.net_equal.proofs.same_rules.Goals as goal

pub returns : goal.returns
returns c = slice_eq-Decides rule_decides _ _ _ c.eq.ensures
