use Rattle.std.proofs.Common.{◌∙◌, arith}
use Rattle.std.specs.BTreeSet.{contains}
use Rattle.net_model.specs.Order.{name_cmp}
use Rattle.link_members.proofs.Contested.{one_contest, no_contest}
use Rattle.link_members.proofs.listers.contest_all.Goals as goal

pub loop-name-init : goal.loop-name-init
loop-name-init c = λ q. no_contest (contains name_cmp c.args.contested.now q)

pub loop-name-preserved : goal.loop-name-preserved
loop-name-preserved c = λ q.
    c.in_ok-contest.ensures q
    ∙ one_contest c.args.members.now c.args.names.now c.loop-name.name-index c.name-item.result (omega (arith, c.loop-name-test.true)) c.name-item.is c.args.lister.now q
    (contains name_cmp c.args.contested.now q) (contains name_cmp c.loop-name.contested q) c.is_rival-rival.result c.is_rival-rival.ensures (c.loop-name.invariant q)
