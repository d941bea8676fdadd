use Rattle.std.proofs.Common.{All, subst, take_all}
use Rattle.std.proofs.lemmas.List.Elements.{All-nil, All-more}
use Rattle.net_search.proofs.ranged.all_ranges.Goals as goal

pub loop-item-init : goal.loop-item-init
loop-item-init g c = All-nil _

pub loop-item-preserved : goal.loop-item-preserved
loop-item-preserved g c = All-more g.T.Ranged.in_range _ _ c.item-item.result c.loop-item-test.true c.loop-item.invariant (subst g.T.Ranged.in_range c.item-item.is c.range_law.ensures)

pub returns : goal.returns
returns g c = subst (All g.T.Ranged.in_range) (take_all _ _ c.loop-item-test.false) c.loop-item.invariant
