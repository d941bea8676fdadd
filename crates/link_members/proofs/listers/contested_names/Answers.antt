use Rattle.std.proofs.Common.{◌∙◌, arith}
use Rattle.link_members.proofs.Contested.{one_rival}
use Rattle.link_members.proofs.listers.contested_names.Goals as goal

pub loop-at-preserved : goal.loop-at-preserved
loop-at-preserved c = λ q.
    one_rival c.args.members.now c.loop-at.at c.index-members-at.result (omega (arith, c.loop-at-test.true)) c.index-members-at.is c.deref.result.now (c.deref.ensures.value ∙ c.in_ok-ports.ensures) c.name.result c.name.ensures q
    _ _ (c.loop-at.invariant q) (c.in_ok-contest_all.ensures q)
