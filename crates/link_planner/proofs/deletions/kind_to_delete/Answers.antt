use Rattle.std.proofs.Common.{◌≡◌, ◌∙◌, None, rules, sym}
use Rattle.link_planner.specs.Drafts.{DraftData}
use Rattle.link_planner.specs.Deletions.{noted}
use Rattle.link_planner.proofs.Noted.{none_stays, device_stays, kept_stays, goes_as}
use Rattle.link_planner.proofs.deletions.kind_to_delete.Goals as goal

pub returns-in_default : goal.returns-in_default
returns-in_default c =
    let d : DraftData = noted c.args.deletions.now c.args.draft.now in
    let none : c.kind_left.result ≡ None = search rules in
    none_stays d c.args.name.now (sym c.kind_left.ensures ∙ none)

pub returns-then-is_ethernet : goal.returns-then-is_ethernet
returns-then-is_ethernet c =
    let d : DraftData = noted c.args.deletions.now c.args.draft.now in
    device_stays d c.args.name.now c.in-Some.kind (sym c.kind_left.ensures ∙ c.in-Some.is) (sym c.is_ethernet.ensures ∙ c.if-is_ethernet.true)

pub returns-then-keeps : goal.returns-then-keeps
returns-then-keeps c =
    let d : DraftData = noted c.args.deletions.now c.args.draft.now in
    kept_stays d c.args.name.now (sym c.keeps.ensures ∙ c.if-keeps.true)

pub returns : goal.returns
returns c =
    let d : DraftData = noted c.args.deletions.now c.args.draft.now in
    goes_as d c.args.name.now c.in-Some.kind (sym c.kind_left.ensures ∙ c.in-Some.is) (sym c.is_ethernet.ensures ∙ c.if-is_ethernet.false) (sym c.keeps.ensures ∙ c.if-keeps.false)
