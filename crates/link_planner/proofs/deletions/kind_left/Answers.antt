use Rattle.std.proofs.Common.{◌≡◌, ◌∙◌, Some, None, rules, sym, ap}
use Rattle.std.specs.Prelude.{option_map}
use Rattle.net_model.specs.Links.{find_link}
use Rattle.net_model.specs.declared.link.Link.{Link}
use Rattle.link_planner.specs.Deletions.{is_noted}
use Rattle.link_planner.proofs.Noted.{kind_gone, kind_stays}
use Rattle.link_planner.proofs.deletions.kind_left.Goals as goal

pub returns-then-has : goal.returns-then-has
returns-then-has c = sym (kind_gone (is_noted c.args.deletions.now) c.args.draft.now.net c.args.name.now (sym c.has.ensures ∙ c.if-has.true))

pub returns-in-Some : goal.returns-in-Some
returns-in-Some c =
    let found : find_link c.args.name.now c.args.draft.now.net.links ≡ Some c.in-Some.link.now = search rules in
    ap (option_map (λ (l : Link). l.kind)) (sym found) ∙ sym (kind_stays (is_noted c.args.deletions.now) c.args.draft.now.net c.args.name.now (sym c.has.ensures ∙ c.if-has.false))

pub returns-in-None : goal.returns-in-None
returns-in-None c =
    let none : find_link c.args.name.now c.args.draft.now.net.links ≡ None = search rules in
    ap (option_map (λ (l : Link). l.kind)) (sym none) ∙ sym (kind_stays (is_noted c.args.deletions.now) c.args.draft.now.net c.args.name.now (sym c.has.ensures ∙ c.if-has.false))
