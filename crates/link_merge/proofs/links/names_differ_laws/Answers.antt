use Rattle.std.proofs.Common.{ap, ◌∙◌}
use Rattle.net_model.specs.Valid.{names_differ}
use Rattle.merge_model.specs.Merged.{merged_links}
use Rattle.link_merge.proofs.Groups.{no_duplicate}
use Rattle.link_merge.proofs.links.names_differ_laws.Goals as goal

pub returns : goal.returns
returns c =
    ap (λ ms. names_differ (merged_links ms)) c.requires.state
    ∙ c.merge_laws.ensures.names c.args.net.now.links c.args.entries.now c.laws.ensures.facts.parts.names (no_duplicate c.args.net.now.links c.args.entries.now c.requires.rules)
