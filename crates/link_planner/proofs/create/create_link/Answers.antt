use Rattle.std.proofs.Common.{rules, refl, ◌≡◌, Some, None}
use Rattle.net_model.specs.Links.{find_link}
use Rattle.link_planner.proofs.Making.{create_next}
use Rattle.link_planner.proofs.create.create_link.Goals as goal

pub returns-in-None : goal.returns-in-None
returns-in-None c =
    let at : find_link c.args.name.now c.args.draft.now.target.links ≡ Some c.in_ok-there.there.now = search rules in
    let new : find_link c.args.name.now c.args.draft.now.net.links ≡ None = search rules in
    create_next c.args.draft.now c.laws.ensures c.args.name.now c.in_ok-there.there.now at new c.requires.stands (c.requires.base refl)
