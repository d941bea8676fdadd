use Rattle.std.proofs.Common.{sym, ◌∙◌}
use Rattle.merge_model.specs.Controllers.{lists}
use Rattle.link_members.proofs.Firsts.{at_place, no_place}
use Rattle.link_members.proofs.listers.first_lister.Goals as goal

pub returns-in-Some : goal.returns-in-Some
returns-in-Some c =
    at_place (λ m. lists m c.args.name.now) c.args.members.now c.in-Some.at c.index-members-at.result
    (sym (c.requires c.args.name.now) ∙ sym c.first_place.ensures ∙ c.in-Some.is)
    c.index-members-at.is

pub returns-in-None : goal.returns-in-None
returns-in-None c =
    no_place (λ m. lists m c.args.name.now) c.args.members.now
    (sym (c.requires c.args.name.now) ∙ sym c.first_place.ensures ∙ c.in-None.is)
