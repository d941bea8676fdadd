use Rattle.std.proofs.Common.{[], sym, ap, ◌∙◌}
use Rattle.std.specs.List.{position}
use Rattle.net_model.specs.Name.{same_bytes}
use Rattle.net_model.specs.Links.{find_link}
use Rattle.net_model.specs.declared.Link.{Link}
use Rattle.link_order.proofs.lemmas.Placed.{placed, unplaced}
use Rattle.link_rules.proofs.merged.Merged.find.Goals as goal

pub returns-in-Some-clause-found : goal.returns-in-Some-clause-found
returns-in-Some-clause-found c =
    placed (λ (l : Link). l.name) (λ n. same_bytes n c.args.name.now) c.self.inside.links.items c.in-Some.at c.index.result.now []
    (ap (position (λ n. same_bytes n c.args.name.now)) (sym c.self.invariant.0) ∙ sym c.place.ensures ∙ c.in-Some.is)
    c.index.ensures
    ∙ ap (find_link c.args.name.now) c.self.view_is

pub returns-in-None-clause-found : goal.returns-in-None-clause-found
returns-in-None-clause-found c =
    sym (unplaced (λ (l : Link). l.name) (λ n. same_bytes n c.args.name.now) c.self.inside.links.items
    (ap (position (λ n. same_bytes n c.args.name.now)) (sym c.self.invariant.0) ∙ sym c.place.ensures ∙ c.in-None.is))
    ∙ ap (find_link c.args.name.now) c.self.view_is
