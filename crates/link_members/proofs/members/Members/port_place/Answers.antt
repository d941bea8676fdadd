use Rattle.std.proofs.Common.{List, [], sym, ap, ◌∙◌}
use Rattle.std.specs.List.{position}
use Rattle.std.specs.Option.{option_and_then}
use Rattle.net_model.specs.Name.{same_bytes}
use Rattle.merge_model.specs.Members.{Member, find_member}
use Rattle.link_members.specs.Listers.{port_names, port_place}
use Rattle.link_members.proofs.Listed.{placed_beside, found_place}
use Rattle.link_order.proofs.lemmas.Placed.{unplaced}
use Rattle.link_members.proofs.members.Members.port_place.Goals as goal

pub returns-in-Some : goal.returns-in-Some
returns-in-Some c =
    c.place-in-Some.ensures
    ∙ found_place c.args.port.now c.index.result.now (find_member c.args.controller.now c.self.inside.list.items)
    (placed_beside (λ (m : Member). m.name) (λ n. same_bytes n c.args.controller.now) port_names c.self.inside.list.items c.self.inside.ports.items c.in-Some.at c.index.result.now []
    (ap (position (λ n. same_bytes n c.args.controller.now)) (sym c.self.invariant.0) ∙ sym c.place.ensures ∙ c.in-Some.is)
    c.self.invariant.3 c.index.ensures)
    ∙ ap (λ (ms : List Member). option_and_then (port_place c.args.port.now) (find_member c.args.controller.now ms)) c.self.view_is

pub returns-in-None : goal.returns-in-None
returns-in-None c =
    ap (option_and_then (port_place c.args.port.now)) (sym (unplaced (λ (m : Member). m.name) (λ n. same_bytes n c.args.controller.now) c.self.inside.list.items
    (ap (position (λ n. same_bytes n c.args.controller.now)) (sym c.self.invariant.0) ∙ sym c.place.ensures ∙ c.in-None.is)))
    ∙ ap (λ (ms : List Member). option_and_then (port_place c.args.port.now) (find_member c.args.controller.now ms)) c.self.view_is
