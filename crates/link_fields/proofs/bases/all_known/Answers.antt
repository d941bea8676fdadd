use Rattle.std.proofs.Common.{◌≡◌, ◌<◌, ◌+◌, length, get_or, Some, None, sym, subst, rules}
use Rattle.link_fields.specs.Bases.{Gives}
use Rattle.link_fields.proofs.Settled.{one_given_known}
use Rattle.link_fields.proofs.bases.all_known.Goals as goal

pub loop-at-preserved : goal.loop-at-preserved
loop-at-preserved c =
    let ms = c.args.members.now in
    let at = c.loop-at.at in
    let lt : at < length ms = search rules in
    let is : get_or c.args.known.now at None ≡ Some c.in-Some.fields = search rules in
    subst (Gives ms (length ms) (at + 1)) (sym c.in_ok-push.ensures.items) (one_given_known ms c.args.known.now at c.loop-at.all.items c.in-Some.fields c.loop-at.invariant c.requires lt is)
