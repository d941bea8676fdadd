use Rattle.link_merge.proofs.Groups.{no_duplicate}
use Rattle.link_merge.proofs.Names.{names_apart}
use Rattle.link_merge.proofs.links.members_differ_laws.Goals as goal

pub returns : goal.returns
returns c =
    names_apart c.args.net.now.links c.args.entries.now c.args.list.now c.requires.list
    (c.merge_laws.ensures.names c.args.net.now.links c.args.entries.now c.laws.ensures.facts.parts.names (no_duplicate c.args.net.now.links c.args.entries.now c.requires.rules))
