use Rattle.std.proofs.Common.{rules, ◌∙◌, ◌++◌}
use Rattle.merge_model.specs.Lifted.{members}
use Rattle.merge_model.specs.Merge.{links_of}
use Rattle.merge_model.specs.Places.{at_rule}
use Rattle.link_rules.specs.Rules.{entry_rules, port_rules, shape_rules, merged_rules}
use Rattle.link_merge.proofs.Ruled.{first_behind}
use Rattle.link_merge.proofs.links.merge_entries.Goals as goal

pub returns-in-Some-broken : goal.returns-in-Some-broken
returns-in-Some-broken c =
    let links = c.args.net.now.links in
    let entries = c.args.doc.now.links in
    let ms = members links entries in
    let merged = links_of links entries in
    first_behind at_rule (entry_rules links entries) (port_rules ms ++ (shape_rules merged ++ merged_rules ms merged)) (search rules)
    ∙ (first_behind at_rule (port_rules ms) (shape_rules merged ++ merged_rules ms merged) (search rules)
    ∙ (first_behind at_rule (shape_rules merged) (merged_rules ms merged) (search rules) ∙ (search rules)))
