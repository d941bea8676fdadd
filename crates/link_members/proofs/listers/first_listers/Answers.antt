use Rattle.std.proofs.Common.{◌∙◌, arith}
use Rattle.link_members.proofs.Firsts.{one_lister}
use Rattle.link_members.proofs.listers.first_listers.Goals as goal

pub loop-at-preserved : goal.loop-at-preserved
loop-at-preserved c = λ q.
    one_lister c.args.members.now c.loop-at.at c.index-members-at.result (omega (arith, c.loop-at-test.true)) c.index-members-at.is c.deref.result.now (c.deref.ensures.value ∙ c.in_ok-ports.ensures) q
    _ _ (c.loop-at.invariant q) (c.in_ok-note_all.ensures q)
