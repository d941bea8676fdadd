use Rattle.std.proofs.Common.{◌∙◌, sym, ap, subst}
use Rattle.std.proofs.lemmas.Result.{on_ok_weaker}
use Rattle.link_planner.specs.declared.phase.Phase.TheVariants.{DeleteLinks}
use Rattle.link_planner.specs.Drafts.{DraftData}
use Rattle.link_planner.specs.Phases.{IsDue}
use Rattle.link_planner.specs.Deletions.{noted, are_bare}
use Rattle.link_planner.proofs.Noted.{note_served, once_served}
use Rattle.link_planner.proofs.deletions.delete.Goals as goal

pub returns-then-are_bare : goal.returns-then-are_bare
returns-then-are_bare g c =
    let bare = ap (are_bare c.args.deletions.now c.args.draft.now.net.links c.args.name.now) c.peer_of.ensures ∙ sym c.are_bare.ensures ∙ c.if-are_bare.true in
    on_ok_weaker c.note.result
    (note_served c.plan_laws.ensures.more c.args.deletions.now c.note.new.self c.args.draft.now c.args.name.now c.args.kind.now c.peer_of.result c.requires.may c.requires.must c.peer_of.ensures bare) c.note.ensures

pub settle-requires : goal.settle-requires
settle-requires g c = c.requires.may.holds

pub serve-served-requires : goal.serve-served-requires
serve-served-requires g c = subst (λ (d : DraftData). IsDue DeleteLinks d c.args.name.now) (sym c.in_ok-settle.ensures.settled) c.requires.may.due

pub returns : goal.returns
returns g c =
    on_ok_weaker c.serve-served.result
    (λ served. once_served c.args.name.now (noted c.args.deletions.now c.args.draft.now) c.settle.new.draft c.serve-served.new.draft c.settle.new.deletions c.in_ok-settle.ensures.none c.in_ok-settle.ensures.settled served c.laws.ensures)
    c.serve-served.ensures
