use Rattle.std.proofs.Common.{rules, ◌≡◌, ◌∙◌, ◌++◌, ◌∷◌, [], ℕ, Bool, List, true, false, set, sym, subst}
use Rattle.reach.specs.Reach.{is_marked}
use Rattle.net_model.specs.Links.{is_named}
use Rattle.net_model.proofs.lemmas.Found.{names_differ-rises}
use Rattle.link_step.specs.Dependents.{MarksAll}
use Rattle.link_step.proofs.Walking.{marks_missing, marks_old, marks_new}
use Rattle.link_step.proofs.dependents.mark.Goals as goal

pub returns-in-None : goal.returns-in-None
returns-in-None c = λ d. marks_missing c.args.links.now d c.args.name.now c.args.marks.now c.args.left.now.items (names_differ-rises c.args.links.now c.requires.in_order) c.in-None.ensures

pub returns-then-marks-at : goal.returns-then-marks-at
returns-then-marks-at c = λ d.
    let on : is_marked c.args.marks.now c.in-Some.at ≡ true = search rules in
    marks_old c.args.links.now d c.args.name.now c.args.marks.now c.args.left.now.items c.in-Some.at (names_differ-rises c.args.links.now c.requires.in_order) c.in-Some.ensures on

pub returns : goal.returns
returns c = λ d.
    let off : is_marked c.args.marks.now c.in-Some.at ≡ false = search rules in
    subst (λ (ls : List ℕ). MarksAll c.args.links.now d (is_named c.args.name.now) c.args.marks.now (set c.args.marks.now c.in-Some.at true) c.args.left.now.items ls) (sym c.in_ok-push.ensures.items)
    (marks_new c.args.links.now d c.args.name.now c.args.marks.now c.args.left.now.items c.in-Some.at (names_differ-rises c.args.links.now c.requires.in_order) c.requires.whole c.in-Some.ensures off)
