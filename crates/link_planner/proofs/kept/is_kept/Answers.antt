use Rattle.std.proofs.Common.{rules, ◌≡◌, ◌∙◌, Some, None, sym}
use Rattle.net_model.specs.Links.{find_link}
use Rattle.link_planner.proofs.Keeping.{kept_both, kept_started, kept_targeted}
use Rattle.link_planner.proofs.kept.is_kept.Goals as goal

pub returns-in-Some-Some : goal.returns-in-Some-Some
returns-in-Some-Some c =
    let here : find_link c.args.name.now c.args.start.now.links ≡ Some c.in-Some-Some.old.now = search rules in
    let there : find_link c.args.name.now c.args.target.now.links ≡ Some c.in-Some-Some.new.now = search rules in
    c.is_same_kind.ensures ∙ sym (kept_both c.args.start.now c.args.target.now c.laws.ensures.net c.laws-2.ensures.net c.args.name.now c.in-Some-Some.old.now c.in-Some-Some.new.now here there)

pub returns-in_default : goal.returns-in_default
returns-in_default c =
    let none : find_link c.args.name.now c.args.target.now.links ≡ None = search rules in
    sym (kept_targeted c.args.start.now c.args.target.now c.laws.ensures.net c.laws-2.ensures.net c.args.name.now none)

pub returns-in_default-2 : goal.returns-in_default-2
returns-in_default-2 c =
    let none : find_link c.args.name.now c.args.start.now.links ≡ None = search rules in
    sym (kept_started c.args.start.now c.args.target.now c.laws.ensures.net c.laws-2.ensures.net c.args.name.now none)
