use Rattle.std.proofs.Common.{◌<◌, ◌+◌, ◌∙◌, List, length, get_or, sym, ap, subst, rules}
use Rattle.merge_model.specs.Members.{Member}
use Rattle.link_fields.specs.Bases.{Gives}
use Rattle.link_fields.proofs.Settled.{one_given_at}
use Rattle.link_fields.proofs.bases.all_deeper.Goals as goal

pub loop-at-preserved : goal.loop-at-preserved
loop-at-preserved c =
    let ms = c.args.members.now in
    let at = c.loop-at.at in
    let lt : at < length ms = search rules in
    subst (Gives ms (c.args.steps + 1) (at + 1)) (sym c.in_ok-push.ensures.items)
    (one_given_at ms (c.args.steps + 1) at c.loop-at.all.items c.deeper.result c.index.result.now c.loop-at.invariant lt (c.index.ensures ∙ ap (λ (ls : List Member). get_or ls at c.index.result.now) c.list-list.ensures) c.deeper.ensures)
