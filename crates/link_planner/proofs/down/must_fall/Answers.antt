use Rattle.std.proofs.Common.{rules, ◌≡◌, Some, None}
use Rattle.net_model.specs.Links.{find_link}
use Rattle.link_planner.specs.Pairs.{AreUnpaired, ArePair}
use Rattle.link_planner.proofs.Done.{if_off}
use Rattle.link_planner.proofs.Downing.{low_by, low_where_new}
use Rattle.link_planner.proofs.down.must_fall.Goals as goal

pub returns-in_default-clause-no : goal.returns-in_default-clause-no
returns-in_default-clause-no c =
    let none : AreUnpaired c.args.draft.now c.args.name.now = search rules in
    λ l t kept found at up. absurd (none l t (record { here = found; at = at }))

pub returns-in_default-link-clause-no : goal.returns-in_default-link-clause-no
returns-in_default-link-clause-no c =
    let none : find_link c.args.name.now c.args.draft.now.start.links ≡ None = search rules in
    low_where_new c.args.draft.now.start c.args.draft.now.target c.args.draft.now.net c.laws.ensures.start c.laws.ensures.target c.args.name.now none

pub returns-else-not-there-clause-no : goal.returns-else-not-there-clause-no
returns-else-not-there-clause-no c =
    let pair : ArePair c.args.draft.now c.args.name.now c.in-Some.link.now c.in-Some.there.now = search rules in
    let old : find_link c.args.name.now c.args.draft.now.start.links ≡ Some c.in-Some-link.old.now = search rules in
    if_off c.joins_bond.result (λ bonds. low_by c.args.draft.now.start c.args.draft.now.target c.args.draft.now.net c.requires.ports c.args.name.now c.in-Some.link.now c.in-Some-link.old.now c.in-Some.there.now pair.here old pair.at c.if-not-there.false bonds) c.joins_bond.ensures.no
