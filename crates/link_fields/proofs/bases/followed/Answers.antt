use Rattle.std.proofs.Common.{◌≡◌, length, subst, rules}
use Rattle.link_fields.specs.Bases.{Gives}
use Rattle.link_fields.proofs.bases.followed.Goals as goal

pub returns : goal.returns
returns c =
    let ms = c.args.members.now in
    let all : c.loop-steps.steps ≡ length ms = search rules in
    subst (λ n. Gives ms n (length ms) c.loop-steps.all.items) all c.loop-steps.invariant
