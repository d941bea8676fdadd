use Rattle.std.proofs.Common.{◌≡◌, ◌∙◌, List, None, Some, get_or, sym, ap, subst, rules}
use Rattle.merge_model.specs.Members.{Member}
use Rattle.link_fields.specs.Bases.{Holds}
use Rattle.link_fields.proofs.bases.found.Goals as goal

pub over_base-requires-clause-below : goal.over_base-requires-clause-below
over_base-requires-clause-below c =
    let is : get_or c.args.known.now c.in-Some.base None ≡ Some c.in-Some-known.below = search rules in
    let here : get_or c.args.members.now c.in-Some.base c.index.result.now ≡ c.index.result.now = sym (c.index.ensures ∙ ap (λ (ms : List Member). get_or ms c.in-Some.base c.index.result.now) c.list-list.ensures) in
    subst (λ m. Holds c.args.members.now m c.in-Some-known.below) here (c.requires.known.right c.in-Some.base c.in-Some-known.below c.in-Some.ensures.0 is c.index.result.now)
