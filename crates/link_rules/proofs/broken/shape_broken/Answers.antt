use Rattle.std.proofs.Common.{◌∙◌, ap}
use Rattle.merge_model.specs.Places.{at_rule, first_of}
use Rattle.link_rules.specs.Rules.{shape_rules}
use Rattle.link_rules.proofs.Outlines.{outlines_differ, shape_same}
use Rattle.link_rules.proofs.broken.shape_broken.Goals as goal

pub of-requires : goal.of-requires
of-requires c = outlines_differ c.args.members.now c.in_ok-links.links.items c.in_ok-links.ensures c.requires

pub returns : goal.returns
returns c = c.in_ok-broken.ensures ∙ ap (λ ls. first_of at_rule (shape_rules ls)) c.in_ok-merged.ensures ∙ shape_same c.args.members.now c.in_ok-links.links.items c.in_ok-links.ensures
