use Rattle.std.proofs.lemmas.Result.{on_ok_weaker}
use Rattle.link_planner.proofs.Creating.{note_served}
use Rattle.link_planner.proofs.creations.create.Goals as goal

pub returns : goal.returns
returns c =
    on_ok_weaker c.note.result (note_served c.plan_laws.ensures.more c.args.creations.now c.note.new.self c.args.draft.now c.args.name.now c.args.kind.now c.first_of-first.result c.requires.may c.requires.comes c.first_of-first.ensures) c.note.ensures
