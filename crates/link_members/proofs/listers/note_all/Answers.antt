use Rattle.std.proofs.Common.{◌∙◌, arith}
use Rattle.std.specs.BTreeMap.{get}
use Rattle.net_model.specs.Order.{name_cmp}
use Rattle.link_members.proofs.Firsts.{one_noted, none_noted}
use Rattle.link_members.proofs.listers.note_all.Goals as goal

pub loop-name-init : goal.loop-name-init
loop-name-init c = λ q. none_noted (get name_cmp c.args.firsts.now q)

pub loop-name-preserved : goal.loop-name-preserved
loop-name-preserved c = λ q.
    c.in_ok-note.ensures q
    ∙ one_noted c.args.names.now c.loop-name.name-index c.name-item.result (omega (arith, c.loop-name-test.true)) c.name-item.is c.args.at q (get name_cmp c.args.firsts.now q) (get name_cmp c.loop-name.firsts q) (c.loop-name.invariant q)
