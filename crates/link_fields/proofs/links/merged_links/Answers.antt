use Rattle.std.proofs.Common.{◌<◌, ◌∙◌, List, length, get_or, ap, rules}
use Rattle.merge_model.specs.Members.{Member}
use Rattle.link_fields.proofs.Settled.{suits_at}
use Rattle.link_fields.proofs.links.merged_links.Goals as goal

pub merged_link-requires : goal.merged_link-requires
merged_link-requires c =
    let ms = c.args.members.now in
    let at = c.loop-at.at in
    let lt : at < length ms = search rules in
    suits_at ms (length ms) (length ms) at c.in_ok-fields.fields.items c.index.result.now c.index-in-loop-at.result.now c.in_ok-fields.ensures lt
    (c.index.ensures ∙ ap (λ (ls : List Member). get_or ls at c.index.result.now) c.list-list.ensures) c.index-in-loop-at.ensures
