use Rattle.std.proofs.Common.{[], sym, ap, ◌∙◌}
use Rattle.std.specs.List.{position}
use Rattle.net_model.specs.Name.{same_bytes}
use Rattle.merge_model.specs.Members.{Member, find_member}
use Rattle.link_order.proofs.lemmas.Placed.{placed, unplaced}
use Rattle.link_members.proofs.members.Members.find.Goals as goal

pub returns-in-Some : goal.returns-in-Some
returns-in-Some c =
    placed (λ (m : Member). m.name) (λ n. same_bytes n c.args.name.now) c.self.inside.list.items c.in-Some.at c.index.result.now []
    (ap (position (λ n. same_bytes n c.args.name.now)) (sym c.self.invariant.0) ∙ sym c.place.ensures ∙ c.in-Some.is)
    c.index.ensures
    ∙ ap (find_member c.args.name.now) c.self.view_is

pub returns-in-None : goal.returns-in-None
returns-in-None c =
    sym (unplaced (λ (m : Member). m.name) (λ n. same_bytes n c.args.name.now) c.self.inside.list.items
    (ap (position (λ n. same_bytes n c.args.name.now)) (sym c.self.invariant.0) ∙ sym c.place.ensures ∙ c.in-None.is))
    ∙ ap (find_member c.args.name.now) c.self.view_is
