use Rattle.std.proofs.Common.{◌≡◌, ◌∙◌, Some, None, rules}
use Rattle.net_model.specs.Links.{find_link}
use Rattle.link_planner.proofs.Joining.{found_in_net, found_in_map}
use Rattle.link_planner.proofs.creations.found.Goals as goal

pub returns-in-Some : goal.returns-in-Some
returns-in-Some c =
    let found : find_link c.args.name.now c.args.draft.now.net.links ≡ Some c.in-Some.link.now = search rules in
    found_in_net c.args.name.now c.args.draft.now.net.links c.args.creations.now.links.entries c.in-Some.link.now found

pub returns-in-None : goal.returns-in-None
returns-in-None c =
    let none : find_link c.args.name.now c.args.draft.now.net.links ≡ None = search rules in
    c.found.ensures ∙ found_in_map c.args.name.now c.args.draft.now.net.links c.args.creations.now.links.entries none
